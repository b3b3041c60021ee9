use native.Mathlib.Omega.{arith}
use Rattle.text.proofs.Puts.{◌then◌, wider}
use Rattle.text.proofs.lines.idle_line.Goals as goal

pub returns : goal.returns
returns c =
    wider
    (c.put_decimal-clocked.ensures
    then c.put_word-worded.ensures
    then c.put_spaced-held.ensures
    then c.put_byte.ensures)
    (omega arith)
