-- What is told of a box of floats.
use Rattle.std.specs.Prelude.{ℕ, ℤ, Result, Ok, Err}
use Rattle.fixed_box.specs.Bounds.{Bounds}
use Rattle.float_bounds.specs.declared.float_fault.FloatFault.{FloatFault}
use Rattle.float_bounds.specs.declared.float_fault.FloatFault.TheVariants.{NotANumber, OutOfRange, Inverted}
use Rattle.held_world.specs.declared.TheConstants.{INVERTED, NOT_A_NUMBER, OUT_OF_RANGE}
use Rattle.held_world.specs.declared.plain.PwBox.{PwBox}
use Rattle.held_world.specs.Plain.{box_out}

abbrev pub fault_of : FloatFault → ℕ
fault_of NotANumber = NOT_A_NUMBER
fault_of OutOfRange = OUT_OF_RANGE
fault_of Inverted = INVERTED

-- the box, or the status of its fault
abbrev pub told_box : Result Bounds FloatFault → Result PwBox ℕ
told_box (Ok body) = Ok (box_out body)
told_box (Err fault) = Err (fault_of fault)

-- a raw number, or the status of its fault
abbrev pub told_number : Result ℤ FloatFault → Result ℤ ℕ
told_number (Ok number) = Ok number
told_number (Err fault) = Err (fault_of fault)
