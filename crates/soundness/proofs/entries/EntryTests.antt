-- What each step and each way out of testing the entries of a state block says of whether they are sound.
-- Assumes nothing.
use Prim.Native.Nat.{ℕ, ◌+◌, ◌*◌, ◌<◌, ◌≤◌}
use mathlib.Core.Path.{◌≡◌, refl, sym, ap, ap₂, ◌∙◌}
use mathlib.Core.Bool.{Bool, true, false}
use mathlib.Core.List.{List}
use native.Mathlib.Numerals.{add-one}
use native.Mathlib.Omega.{arith}
use borrow.Author.Tests.{le-leb, lt-leb, eq-eqb, ne_eqb}
use lib.Dec.{leb, eqb}
use lib.ListN.{length, get_or, take, drop}
use lib.Seq.{take_all}
use Rattle.arith.specs.Choice.{pick, both, every}
use Rattle.plan.specs.declared.Rest.{Rest}
use Rattle.plan.specs.Times.{time_of, whole}
use Rattle.arith.proofs.Tests.{both_left, both_right, both_yes}
use Rattle.arith.proofs.ListLaws.{every_both}
use Rattle.arith.proofs.Loops.{every_again, every_not, every_end}
use Rattle.reclaiming.specs.declared.Entry.{Entry}
use Rattle.reclaiming.specs.StateBlock.{State, no_entry, rest_in, task_of, total_in, decode, state_count}
use Rattle.reclaiming.specs.Questions.{entry_sound, entry_ahead, total_sound}
use Rattle.state.specs.Code.{Holds, entry_in, queued_to}
use Rattle.soundness.specs.declared.entries.Entries.TheVariants.{NotSound, Behind, Ahead}
use Rattle.soundness.specs.SoundEntries.{rest_sound, entry_passes, entries_pass, entries_by, entries_tested}
use Rattle.state.proofs.BlockLaws.{count_in_lem, entry_at_lem, queued_in_lem}

-- what is left of a job, beside a whole one: each test as the code makes it
module _ (rest full : Rest) where
  pub work_over : full.work < rest.work → false ≡ rest_sound rest full
  work_over h = simp (lt-leb rest.work full.work h)

  module _ (work : rest.work ≤ full.work) where
    pub fixed_over : full.fixed < rest.fixed → false ≡ rest_sound rest full
    fixed_over h = simp (le-leb rest.work full.work work, lt-leb rest.fixed full.fixed h)

    module _ (fixed : rest.fixed ≤ full.fixed) where
      pub finished_fixed : rest.work ≡ 0 → eqb rest.fixed 0 ≡ rest_sound rest full
      finished_fixed z =
          simp (le-leb rest.work full.work work, le-leb rest.fixed full.fixed fixed, eq-eqb rest.work 0 z)

      pub open_fixed : (rest.work ≡ 0 → ⊥) → true ≡ rest_sound rest full
      open_fixed n =
          simp (le-leb rest.work full.work work, le-leb rest.fixed full.fixed fixed, ne_eqb rest.work 0 n)

-- what is left of an entry's job, and a whole job of its task, as they are read, at a speed
pub record Compared (b : List ℕ) (i speed : ℕ) (ahead : Bool) (rest full : Rest) : Type 0 where
  pub rest_in : rest ≡ rest_in (entry_in b i)
  pub whole_in : full ≡ whole (task_of (entry_in b i))

module _ {b : List ℕ} {i speed : ℕ} {ahead : Bool} {rest full : Rest} (k : Compared b i speed ahead rest full) where
  abbrev entry : Entry
  entry = entry_in b i

  -- the tests as the code makes them
  entry_tests :
      (remaining : ℕ) →
      remaining ≡ entry.remaining →
      entry_passes ahead speed entry
      ≡ both (both (rest_sound rest full) (leb remaining (time_of speed full))) (pick ahead (leb (time_of speed rest) remaining) true)
  entry_tests remaining d =
      sym
      (ap₂ both
      (ap₂ both (ap₂ rest_sound k.rest_in k.whole_in) (ap₂ (λ (n : ℕ) (y : Rest). leb n (time_of speed y)) d k.whole_in))
      (ap₂ (λ (x : Rest) (n : ℕ). pick ahead (leb (time_of speed x) n) true) k.rest_in d))

  pub rest_high : {found : Bool} → found ≡ rest_sound rest full → found ≡ false → false ≡ entry_passes ahead speed entry
  rest_high f e =
      sym
      (entry_tests entry.remaining refl
      ∙ ap (λ (t : Bool). both (both t (leb entry.remaining (time_of speed full))) (pick ahead (leb (time_of speed rest) entry.remaining) true))
      (sym f ∙ e))

-- and its plain ticks left, of which it was found whether they are within the time of a whole job
pub record Measured (b : List ℕ) (i speed : ℕ) (ahead : Bool) (rest full : Rest) (remaining : ℕ) (found : Bool) : Type 0 where
  pub compared : Compared b i speed ahead rest full
  pub low : rest_sound rest full ≡ true
  pub remaining_in : remaining ≡ (entry_in b i).remaining
  pub found_is : found ≡ leb remaining (time_of speed full)

module _ {b : List ℕ} {i speed : ℕ} {ahead : Bool} {rest full : Rest} {remaining : ℕ} {found : Bool}
    (k : Measured b i speed ahead rest full remaining found) where
  last_tests : (t : Bool) → found ≡ t → both t (pick ahead (leb (time_of speed rest) remaining) true) ≡ entry_passes ahead speed (entry_in b i)
  last_tests t e =
      sym
      (entry_tests k.compared remaining k.remaining_in
      ∙ ap₂ (λ (u v : Bool). both (both u v) (pick ahead (leb (time_of speed rest) remaining) true)) k.low
      (sym k.found_is ∙ e))

  pub remaining_high : found ≡ false → false ≡ entry_passes ahead speed (entry_in b i)
  remaining_high e = last_tests false e

  pub not_asked : found ≡ true → ahead ≡ false → true ≡ entry_passes ahead speed (entry_in b i)
  not_asked e a = sym (ap (λ (t : Bool). pick t (leb (time_of speed rest) remaining) true) a) ∙ last_tests true e

  pub remaining_last :
      found ≡ true → ahead ≡ true → {last : Bool} → last ≡ leb (time_of speed rest) remaining → last ≡ entry_passes ahead speed (entry_in b i)
  remaining_last e a f = f ∙ sym (ap (λ (t : Bool). pick t (leb (time_of speed rest) remaining) true) a) ∙ last_tests true e

-- every entry of a block, tested from the front: those from i on decide
pub record Testing (b : List ℕ) (count : ℕ) (test : Entry → Bool) (i : ℕ) : Type 0 where
  pub holds : Holds b
  pub same : count ≡ state_count b
  pub below : i ≤ count
  pub decide : every test (drop i (take count (decode b).entries)) ≡ every test (take count (decode b).entries)

module _ {b : List ℕ} {count : ℕ} {test : Entry → Bool} {i : ℕ} (now : Testing b count test i) where
  size : count ≡ length (decode b).entries
  size = now.same ∙ sym (count_in_lem b)

  all_entries : every test (take count (decode b).entries) ≡ every test (decode b).entries
  all_entries = ap (every test) (take_all count (decode b).entries (omega (arith, size)))

  entries_end : count ≤ i → true ≡ every test (decode b).entries
  entries_end h =
      every_end test (decode b).entries count no_entry (omega (arith, size)) i (omega (arith, now.below)) now.decide ∙ all_entries

  module _ (h : i < count) {found : Bool} (e : found ≡ test (entry_in b i)) where
    tested_is : test (get_or (decode b).entries i no_entry) ≡ found
    tested_is = ap test (entry_at_lem b i (omega (arith, now.same))) ∙ sym e

    entries_stop : found ≡ false → false ≡ every test (decode b).entries
    entries_stop f =
        every_not test (decode b).entries count no_entry (omega (arith, size)) i h now.decide (tested_is ∙ f) ∙ all_entries

    pub entries_again : found ≡ true → Testing b count test (i + 1)
    entries_again t = record {
      holds = now.holds;
      same = now.same;
      below = omega arith;
      decide = every_again test (decode b).entries count no_entry (omega (arith, size)) i h now.decide (tested_is ∙ t);
    }

-- the terms below i of the sum of their remaining ticks
pub record SummedTo (b : List ℕ) (sum i : ℕ) : Type 0 where
  pub total : sum ≡ queued_to b i
  pub small : sum ≤ 65535 * i

pub sum_more : {b : List ℕ} {sum i x : ℕ} → SummedTo b sum i → x ≡ (entry_in b i).remaining → x ≤ 65535 → SummedTo b (sum + x) (i + 1)
sum_more {b} {i = i} so_far read most = record {
  total = ap₂ ◌+◌ so_far.total read ∙ ap (queued_to b) (sym (add-one i));
  small = omega (arith, so_far.small);
}

-- each way out of the walk: an entry does not pass, or all do and the sum decides
module _ {b : List ℕ} {count : ℕ} {test : Entry → Bool} {i : ℕ} (now : Testing b count test i) where
  pub walk_stop : i < count → {found : Bool} → found ≡ test (entry_in b i) → found ≡ false → false ≡ both (every test (decode b).entries) (total_sound (decode b))
  walk_stop h e f = ap (λ (t : Bool). both t (total_sound (decode b))) (entries_stop now h e f)

  pub walk_end :
      count ≤ i →
      {sum total : ℕ} →
      SummedTo b sum i →
      total ≡ total_in b →
      eqb total sum ≡ both (every test (decode b).entries) (total_sound (decode b))
  walk_end h {sum} so_far read =
      let n : i ≡ state_count b = omega (arith, now.below, now.same) in
      ap₂ eqb read (so_far.total ∙ ap (queued_to b) n ∙ queued_in_lem b) ∙ ap (λ (t : Bool). both t (total_sound (decode b))) (entries_end now h)

-- two tests that are made in another order
both_turned : (a b c : Bool) → both (both a b) c ≡ both (both a c) b
both_turned true true true = refl
both_turned true true false = refl
both_turned true false true = refl
both_turned true false false = refl
both_turned false b c = refl

-- what is found of all entries, by whether every one is sound and ahead
module _ (speed : ℕ) (s : State) {both-pass : Bool} (e : both-pass ≡ entries_pass true speed s) where
  abbrev es : List Entry
  es = s.entries

  abbrev sounds : Bool
  sounds = both (every (entry_sound speed) es) (total_sound s)

  abbrev aheads : Bool
  aheads = every (entry_ahead speed) es

  passes_both : both sounds aheads ≡ both-pass
  passes_both =
      both_turned (every (entry_sound speed) es) (total_sound s) aheads
      ∙ sym (e ∙ ap (λ (t : Bool). both t (total_sound s)) (every_both (entry_sound speed) (entry_ahead speed) es))

  pub entries_ahead : both-pass ≡ true → Ahead ≡ entries_tested speed s
  entries_ahead t =
      let all : both sounds aheads ≡ true = passes_both ∙ t in
      sym (ap₂ entries_by (both_left sounds aheads all) (both_right sounds aheads all))

  module _ {sound : Bool} (g : sound ≡ entries_pass false speed s) where
    alone : sounds ≡ sound
    alone = sym (g ∙ (λ k. both (every (λ (x : Entry). both_yes (entry_sound speed x) k) es) (total_sound s)))

    pub entries_behind : both-pass ≡ false → sound ≡ true → Behind ≡ entries_tested speed s
    entries_behind f t =
        let well : sounds ≡ true = alone ∙ t in
        sym (ap₂ entries_by well (ap (λ (x : Bool). both x aheads) (sym well) ∙ passes_both ∙ f))

    pub entries_none : sound ≡ false → NotSound ≡ entries_tested speed s
    entries_none f = sym (ap (λ (x : Bool). entries_by x aheads) (alone ∙ f))
