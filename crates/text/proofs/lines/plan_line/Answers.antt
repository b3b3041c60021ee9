use native.Mathlib.Omega.{arith}
use Rattle.text.proofs.Puts.{◌then◌, wider}
use Rattle.text.proofs.lines.plan_line.Goals as goal

pub returns : goal.returns
returns c =
    wider
    (c.put_word-worded.ensures
    then c.put_spaced-counted.ensures
    then c.put_spaced-levelled.ensures
    then c.put_spaced-spanned.ensures
    then c.put_byte.ensures)
    (omega arith)
