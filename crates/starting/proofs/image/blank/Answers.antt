use Prim.Native.Nat.{ℕ, ◌%◌}
use mathlib.Core.Path.{◌≡◌, ap, ◌∙◌}
use mathlib.Core.List.{List}
use native.Mathlib.Omega.{arith}
use lib.ListN.{set, replicate}
use lib.Seq.{sets}
use Rattle.reclaiming.specs.Fields.{offset_of}
use Rattle.reclaiming.specs.StateBlock.{head_fields, task_field, count_field, tail_at, state_length}
use Rattle.levels.specs.Code.{loaded}
use Rattle.state.specs.Code.{head_stored}
use Rattle.state.specs.Tables.{table_bytes}
use Rattle.starting.proofs.image.blank.Goals as goal

pub returns : goal.returns
returns c =
    let table : List ℕ = table_bytes (loaded c.args.speeds.now c.args.levels) in
    let same : c.args.count ≡ c.args.count % 256 = omega (arith, c.requires.0) in
    c.put_table.ensures
    ∙ ap (λ (n : ℕ). sets (set (head_stored (replicate state_length 0) task_field 255) (offset_of head_fields count_field) n) tail_at table) same
