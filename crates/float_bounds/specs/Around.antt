-- The box of fixed point around a box of floats.
use Rattle.std.specs.Prelude.{ℕ, Result, Ok, Err, List, slice_index, if◌then◌else◌}
use Rattle.fixed_box.specs.Bounds.{Bounds}
use Rattle.float_bounds.specs.declared.float_fault.FloatFault.{FloatFault}
use Rattle.float_bounds.specs.declared.float_fault.FloatFault.TheVariants.{Inverted}
use Rattle.float_bounds.specs.declared.format.Format.{Format}
use Rattle.float_bounds.specs.declared.around.Span.{Span}
use Rattle.float_bounds.specs.Value.{and_then}
use Rattle.float_bounds.specs.Rounding.{fix_below, fix_above}
use Rattle.float_bounds.specs.Order.{float_le}

-- The least interval of raw numbers around an interval of floats. The lower end's fault comes first, then the upper end's, and then that they are inverted.
abbrev pub span_around : Format → ℕ → ℕ → Result Span FloatFault
span_around f lo hi =
    and_then (λ low. and_then (λ high. if float_le f lo hi then Ok (record { lo = low; hi = high }) else Err Inverted) (fix_above f hi)) (fix_below f lo)

-- the box with an interval on each axis
abbrev pub box_of : Span → Span → Span → Bounds
box_of x y z = record { lo = record { x = x.lo; y = y.lo; z = z.lo }; hi = record { x = x.hi; y = y.hi; z = z.hi } }

-- The least box of fixed point around the box of floats between two corners. The axes come in turn, and the first that has a fault decides.
abbrev pub box_around : Format → List ℕ → List ℕ → Result Bounds FloatFault
box_around f lo hi =
    and_then (λ x. and_then (λ y. and_then (λ z. Ok (box_of x y z)) (span_around f (slice_index lo 2) (slice_index hi 2)))
    (span_around f (slice_index lo 1) (slice_index hi 1))) (span_around f (slice_index lo 0) (slice_index hi 0))
