mod Adjusted
mod Balance
mod BoxEquality
mod BuiltTrees
mod Detaching
pub mod Frames
mod Gathering
mod Halving
pub mod Heights
mod Inserting
mod InsertingBelow
mod LeafMoves
mod LeafViews
mod MovedTrees
mod NodesViews
mod OccupiedKeys
mod Opened
mod Paths
mod Rebalanced
mod Removing
mod ResizedTrees
mod Rotations
mod ShownSlabs
mod TreeLaws
mod Views
