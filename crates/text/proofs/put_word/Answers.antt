-- The word's bytes take the place of as many that stood there.
use mathlib.Core.List.{append_assoc}
use borrow.Author.Rules.{rules}
use lib.Seq.{sets-eq}
use Rattle.std.proofs.lemmas.List.Edits.{paste_all}
use Rattle.std.proofs.lemmas.Slice.{put_mid-paste}
use Rattle.text.proofs.put_word.Goals as goal

pub returns : goal.returns
returns c = search (rules, put_mid-paste, paste_all, sets-eq, append_assoc)
