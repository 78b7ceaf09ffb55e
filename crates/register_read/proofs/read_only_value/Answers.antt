-- What is left of `read_only_value`: a well-formed device's mode and pixels keep the products of its lines and memories within 32 bits.
-- Assumes nothing.
use Rattle.std.proofs.Common.{arith}
use Rattle.device.proofs.Laws.{well_formed_lem}
use Rattle.register_read.proofs.read_only_value.Goals as goal

pub overflow_mul-result : goal.overflow_mul-result
overflow_mul-result c = let w = well_formed_lem _ c.requires in omega arith

pub overflow_mul-result-in-VramSize : goal.overflow_mul-result-in-VramSize
overflow_mul-result-in-VramSize c = let w = well_formed_lem _ c.requires in omega arith

pub overflow_mul-result-in-FbSize : goal.overflow_mul-result-in-FbSize
overflow_mul-result-in-FbSize c = let w = well_formed_lem _ c.requires in omega arith
