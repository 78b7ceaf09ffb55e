-- Document 01's tables hold, all computed.
-- Assumes nothing.
use mathlib.Core.Path.{refl}
use Rattle.ring.specs.Waiting.{placed}
use Rattle.register.specs.Numbers.{numbers, register_of}
use Rattle.cursor.specs.Plane.{shape_good}
use Rattle.execution.specs.Table.{unless, turn_of}
use Rattle.execution.specs.Turns.{runs}
use Rattle.command.specs.Commands.{entry, kind_of, commands}
use Rattle.device.specs.Device.{sizes_good, mode_good, condition_good, defined_good, well_formed}
use Rattle.register_read.specs.Registers.{writable_value, read_only_value, read_by, read_of}
use Rattle.cases.specs.Cases.{AllEqual}
use Rattle.cases.specs.Tables.{Reads, NotThere, fresh_device, fresh_reads, absent, set_device, set_reads, command_table, CommandsHold, operations, fences, foreign_numbers, NotOfferedAny, answer_numbers}

pub fresh_reads_lem : Reads fresh_device fresh_reads
unfolding fresh_reads sizes_good mode_good condition_good defined_good well_formed register_of numbers writable_value read_only_value read_by read_of
fresh_reads_lem = refl

pub fresh_absent : NotThere fresh_device absent
unfolding sizes_good mode_good condition_good defined_good well_formed register_of numbers read_by read_of
fresh_absent = refl

pub set_reads_lem : Reads set_device set_reads
unfolding set_reads sizes_good mode_good condition_good defined_good well_formed placed register_of numbers writable_value read_only_value read_by read_of
set_reads_lem = refl

pub commands_hold : CommandsHold
unfolding command_table entry kind_of commands shape_good unless turn_of runs
commands_hold = record { names = refl; offered = refl; heads = refl; lengths = refl; actions = refl; executed = refl; waiting = refl }

pub operations_hold : AllEqual operations
unfolding operations entry kind_of commands unless turn_of runs
operations_hold = (refl, (refl, tt))

pub fences_hold : AllEqual fences
unfolding fences entry kind_of commands unless turn_of runs
fences_hold = (refl, (refl, (refl, tt)))

pub not_offered : NotOfferedAny foreign_numbers
unfolding entry kind_of commands unless turn_of runs
not_offered = record { no_row = refl; not_offered = refl; alone = refl; with_more = refl }

pub answers_hold : AllEqual answer_numbers
unfolding answer_numbers
answers_hold = (refl, (refl, (refl, (refl, (refl, (refl, (refl, (refl, (refl, (refl, (refl, tt)))))))))))
