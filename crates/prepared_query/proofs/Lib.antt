mod Around
mod Casts
mod Lines
mod Passes
mod QueryMeets
