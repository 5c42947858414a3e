pub mod AnyWorld
