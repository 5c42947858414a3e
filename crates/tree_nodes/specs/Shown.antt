-- What a stored node shows.
use Rattle.std.specs.Prelude.{map, option_map}
use Rattle.fixed_box.specs.Bounds.{Bounds}
use Rattle.slab.specs.Slab.{Slab}
use Rattle.tree_nodes.specs.declared.node.Node.{Node}
use Rattle.tree_nodes.specs.declared.node.Role.{Role}
use Rattle.tree_nodes.specs.declared.node.Role.TheVariants.{Leaf, Inner}
use Rattle.tree_nodes.specs.declared.node_view.NodeView.{NodeView}
use Rattle.tree_nodes.specs.declared.node_view.NodeView.TheVariants as variant

abbrev pub shown_as : Bounds → Role → NodeView
shown_as b (Leaf slot) = variant.Leaf slot b
shown_as b (Inner left right height) = variant.Inner left right b height

abbrev pub shown : Node → NodeView
shown n = shown_as n.bounds n.role

-- the slab of what its nodes show
abbrev pub shown_slab : Slab Node → Slab NodeView
shown_slab s = record { slots = map (option_map shown) s.slots; vacant_key = s.vacant_key; capacity = s.capacity }
