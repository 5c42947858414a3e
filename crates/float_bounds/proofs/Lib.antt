mod Bounding
mod Ranked
mod Rounded
mod Scaling
mod Spanned
