use native.Mathlib.Omega.{arith}
use Rattle.plan.proofs.BlockBits.{bit_count_most, block_length_is}
use Rattle.plan_reading.proofs.fields.block_length.Goals as goal

pub overflow_add-result : goal.overflow_add-result
overflow_add-result c = omega (arith, c.bit_count.ensures, bit_count_most c.args.edition c.args.count c.requires)

pub returns : goal.returns
returns c = omega (arith, c.bit_count.ensures, block_length_is c.args.edition c.args.count)
