-- The loop over the passes: the lines that are stored, and those that are still to come.
-- Assumes nothing.
use Prim.Native.Nat.{ℕ, zero, suc, ◌+◌, ◌*◌, ◌/◌, ◌%◌, ◌<◌, ◌≤◌}
use mathlib.Core.Path.{◌≡◌, refl, sym, ap, ap₂, ◌∙◌}
use mathlib.Core.List.{List, [], ◌∷◌, ◌++◌, append_assoc}
use native.Mathlib.Nat.{add-zero}
use native.Mathlib.Omega.{arith}
use lib.Dec.{eqb}
use lib.ListN.{length, get_or, take, drop, length-append, drop_of_length-le}
use lib.Seq.{sets, drop-cons, drop-drop}
use Rattle.std.specs.Simd.{first_chunks}
use Rattle.arith.specs.Choice.{pick}
use Rattle.plan.specs.declared.Task.{Task}
use Rattle.plan.specs.Times.{no_rest}
use Rattle.reclaiming.specs.declared.Order.TheVariants.{Run, Idle}
use Rattle.reclaiming.specs.Replies.{Reply}
use Rattle.reclaiming.specs.Passes.{Pass}
use Rattle.reclaiming.specs.Books.{Answered, DispatcherBook, booked}
use Rattle.reclaiming.specs.Calls.{pass_reply, pass_bytes}
use Rattle.reclaiming.specs.Run.{Line, line, trace, bytes_after, lines_from}
use Rattle.transcript.specs.Listing.{reply_line, refused_line, pass_of, passes_in, odd_line, lines_text}
use Rattle.text.specs.Stores.{Put}
use Rattle.listing.specs.RunLines.{passes_text}
use Rattle.arith.proofs.Stores.{sets_append}
use Rattle.text.proofs.Puts.{as_text}
use Rattle.std.specs.declared.result.Result.TheVariants.{Ok, Err}

-- the lines tell of a book its clock alone
module _ (speeds vs : List ℕ) (ts us : List Task) where
  same_clock :
      (b c : DispatcherBook) → b.clock ≡ c.clock → (p : Pass) (r : Reply) → (booked speeds ts b p r).clock ≡ (booked vs us c p r).clock
  same_clock b c e p (Ok (Run task level hold)) = ap (λ (k : ℕ). k + p.d) e
  same_clock b c e p (Ok (Idle hold)) = ap (λ (k : ℕ). k + p.d) e
  same_clock b c e p (Err x) = e

  same_lines :
      (b c : DispatcherBook) → b.clock ≡ c.clock → (answers : List Answered) → lines_from speeds ts b answers ≡ lines_from vs us c answers
  same_lines b c e [] = refl
  same_lines b c e (a ∷ rest) =
      let p : Pass = a.pass in
      let r : Reply = a.reply in
      let next : (booked speeds ts b p r).clock ≡ (booked vs us c p r).clock = same_clock b c e p r in
      ap₂ (λ (k : ℕ) (ls : List Line). line k r ∷ ls) next (same_lines (booked speeds ts b p r) (booked vs us c p r) next rest)

  same_text :
      (b c : DispatcherBook) →
      b.clock ≡ c.clock →
      (state passes : List ℕ) →
      passes_text speeds ts b state passes ≡ passes_text vs us c state passes
  same_text b c e state passes =
      ap (λ (ls : List Line). lines_text ls ++ odd_line passes) (same_lines b c e (trace state (passes_in passes)))

-- so they are followed on a book with nothing in it but the clock
abbrev pub no_speeds : List ℕ
no_speeds = []

abbrev pub no_tasks : List Task
no_tasks = []

abbrev pub book_at : ℕ → DispatcherBook
book_at clock = record { clock = clock; closed = []; task = 255; level = 0; left = λ i. no_rest }

abbrev text_at : ℕ → List ℕ → List ℕ → List ℕ
text_at clock state passes = passes_text no_speeds no_tasks (book_at clock) state passes

-- two bytes more leave an odd byte as it is
odd_on : (high low : ℕ) (rest : List ℕ) → odd_line (high ∷ low ∷ rest) ≡ odd_line rest
odd_on high low rest =
    let e : suc (suc (length rest)) % 2 ≡ length rest % 2 = omega arith in
    ap (λ (k : ℕ). pick (eqb k 0) [] (refused_line 16)) e

-- the line of the first pass, then the lines of the rest
first_line :
    (clock after high low : ℕ) (state rest : List ℕ) {r : Reply} {next : List ℕ} →
    r ≡ pass_reply state (pass_of high low).d (pass_of high low).finished →
    next ≡ pass_bytes state (pass_of high low).d (pass_of high low).finished →
    (booked no_speeds no_tasks (book_at clock) (pass_of high low) r).clock ≡ after →
    text_at clock state (high ∷ low ∷ rest) ≡ reply_line after r ++ text_at after next rest
first_line clock after high low state rest {r} {next} replied stored moved =
    let book : Reply → DispatcherBook = λ x. booked no_speeds no_tasks (book_at clock) (pass_of high low) x in
    let told : Reply → List ℕ = λ x. reply_line (book x).clock x in
    let left : Reply → List ℕ → List ℕ = λ x s. lines_text (lines_from no_speeds no_tasks (book x) (trace s (passes_in rest))) in
    ap₂ (λ (x : Reply) (s : List ℕ). told x ++ left x s ++ odd_line (high ∷ low ∷ rest)) (sym replied) (sym stored)
    ∙ append_assoc (told r) (left r next) (odd_line (high ∷ low ∷ rest))
    ∙ ap (λ (o : List ℕ). told r ++ (left r next ++ o)) (odd_on high low rest)
    ∙ ap₂ (λ (k : ℕ) (t : List ℕ). reply_line k r ++ t) moved (same_text no_speeds no_speeds no_tasks no_tasks (book r) (book_at after) moved next rest)

-- a line stored, of a text that it begins
module _ {m at r : ℕ} {a b line : List ℕ} (p : Put m a at line r b) (rest left : List ℕ) (e : rest ≡ line ++ left) where
  rest_bytes : (whole : List ℕ) → sets a at rest ≡ whole → sets b r left ≡ whole
  rest_bytes whole h =
      ap₂ (λ (x : List ℕ) (k : ℕ). sets x k left) p.bytes p.place
      ∙ sym (sets_append a at line left)
      ∙ ap (λ (x : List ℕ). sets a at x) (sym e)
      ∙ h

  rest_place : (end : ℕ) → at + length rest ≡ end → r + length left ≡ end
  rest_place end h = omega (arith, p.place, length-append line left, ap (λ (x : List ℕ). length x) e)

-- two bytes, and those that follow
two_more : (passes : List ℕ) (i : ℕ) → i + 1 < length passes → drop i passes ≡ get_or passes i 0 ∷ get_or passes (i + 1) 0 ∷ drop (i + 2) passes
two_more passes i h =
    let one : suc i ≡ i + 1 = omega arith in
    let two : suc (i + 1) ≡ i + 2 = omega arith in
    drop-cons passes i 0 (omega arith)
    ∙ ap (λ (k : ℕ). get_or passes i 0 ∷ drop k passes) one
    ∙ ap (λ (l : List ℕ). get_or passes i 0 ∷ l)
    (drop-cons passes (i + 1) 0 h ∙ ap (λ (k : ℕ). get_or passes (i + 1) 0 ∷ drop k passes) two)

-- the two bytes of pass k, where the passes are cut into pairs
pair_cut : (n k : ℕ) (passes none : List ℕ) → k < n → get_or (first_chunks 2 n passes) k none ≡ take 2 (drop (2 * k) passes)
pair_cut zero k passes none h = absurd (omega arith)
pair_cut (suc n) zero passes none h = refl
pair_cut (suc n) (suc k) passes none h =
    let on : 2 + 2 * k ≡ 2 * suc k = omega arith in
    pair_cut n k (drop 2 passes) none (omega arith)
    ∙ ap (λ (l : List ℕ). take 2 l) (drop-drop (2 * k) 2 passes ∙ ap (λ (j : ℕ). drop j passes) on)

pub pair_at :
    (passes : List ℕ) {pairs : List (List ℕ)} (k : ℕ) →
    pairs ≡ first_chunks 2 (length passes / 2) passes →
    length pairs ≡ length passes / 2 →
    k < length pairs →
    get_or pairs k [] ≡ get_or passes (2 * k) 0 ∷ get_or passes (2 * k + 1) 0 ∷ []
pair_at passes k e long h =
    ap (λ (ps : List (List ℕ)). get_or ps k []) e
    ∙ pair_cut (length passes / 2) k passes [] (omega arith)
    ∙ ap (λ (l : List ℕ). take 2 l) (two_more passes (2 * k) (omega arith))

-- where the loop stands: what is still to be stored from its place on completes the lines of all passes
pub record Going (passes start before : List ℕ) (from : ℕ) (state out : List ℕ) (at clock k : ℕ) : Type 0 where
  pub inside : 2 * k ≤ length passes
  pub room : length out ≡ length before
  pub kept : length state ≡ length start
  pub near : at ≤ from + 52 * k
  pub early : clock ≤ 32767 * k
  pub bytes : sets out at (text_at clock state (drop (2 * k) passes)) ≡ sets before from (text_at 0 start passes)
  pub place : at + length (text_at clock state (drop (2 * k) passes)) ≡ from + length (text_at 0 start passes)
  pub states : bytes_after state (passes_in (drop (2 * k) passes)) ≡ bytes_after start (passes_in passes)

pub going_first : (passes state out : List ℕ) (from : ℕ) → Going passes state out from state out from 0 0
going_first passes state out from = record {
  inside = omega arith;
  room = refl;
  kept = refl;
  near = omega arith;
  early = omega arith;
  bytes = refl;
  place = refl;
  states = refl;
}

-- pass k: its two bytes, and what the dispatcher replied and left
pub record Passed (passes : List ℕ) (k : ℕ) (state : List ℕ) (clock high low : ℕ) (r : Reply) (next : List ℕ) (after : ℕ) : Type 0 where
  pub more : 2 * k + 1 < length passes
  pub is_high : high ≡ get_or passes (2 * k) 0
  pub is_low : low ≡ get_or passes (2 * k + 1) 0
  pub small : low < 256
  pub replied : r ≡ pass_reply state (pass_of high low).d (pass_of high low).finished
  pub stored : next ≡ pass_bytes state (pass_of high low).d (pass_of high low).finished
  pub kept : length next ≡ length state
  pub moved : (booked no_speeds no_tasks (book_at clock) (pass_of high low) r).clock ≡ after
  pub later : after ≤ clock + (pass_of high low).d

module _ {passes : List ℕ} {k : ℕ} {state : List ℕ} {clock high low : ℕ} {r : Reply} {next : List ℕ} {after : ℕ}
    (h : Passed passes k state clock high low r next after) where
  passed_bytes : drop (2 * k) passes ≡ high ∷ low ∷ drop (2 * (k + 1)) passes
  passed_bytes =
      let on : 2 * k + 2 ≡ 2 * (k + 1) = omega arith in
      two_more passes (2 * k) h.more
      ∙ ap₂ (λ (x y : ℕ). x ∷ y ∷ drop (2 * k + 2) passes) (sym h.is_high) (sym h.is_low)
      ∙ ap (λ (j : ℕ). high ∷ low ∷ drop j passes) on

  -- its line, then the lines of the rest
  passed_line : text_at clock state (drop (2 * k) passes) ≡ reply_line after r ++ text_at after next (drop (2 * (k + 1)) passes)
  passed_line =
      ap (λ (l : List ℕ). text_at clock state l) passed_bytes
      ∙ first_line clock after high low state (drop (2 * (k + 1)) passes) h.replied h.stored h.moved

  passed_states : bytes_after next (passes_in (drop (2 * (k + 1)) passes)) ≡ bytes_after state (passes_in (drop (2 * k) passes))
  passed_states =
      ap (λ (s : List ℕ). bytes_after s (passes_in (drop (2 * (k + 1)) passes))) h.stored
      ∙ sym (ap (λ (l : List ℕ). bytes_after state (passes_in l)) passed_bytes)

module _ {passes start before : List ℕ} {from : ℕ} {state out : List ℕ} {at clock k : ℕ}
    (g : Going passes start before from state out at clock k) where
  -- another pass
  pub going_again :
      {high low after r' : ℕ} {r : Reply} {next out' : List ℕ} →
      Passed passes k state clock high low r next after →
      Put 52 out at (reply_line after r) r' out' →
      length out' ≡ length out →
      Going passes start before from next out' r' after (k + 1)
  going_again {after = after} {next = next} h p room' =
      let lines : List ℕ = text_at 0 start passes in
      let rest : List ℕ = text_at clock state (drop (2 * k) passes) in
      let left : List ℕ = text_at after next (drop (2 * (k + 1)) passes) in
      record {
        inside = omega (arith, h.more);
        room = room' ∙ g.room;
        kept = h.kept ∙ g.kept;
        near = omega (arith, g.near, p.near);
        early = omega (arith, g.early, h.small, h.later);
        bytes = rest_bytes p rest left (passed_line h) (sets before from lines) g.bytes;
        place = rest_place p rest left (passed_line h) (from + length lines) g.place;
        states = passed_states h ∙ g.states;
      }

  -- what the loop leaves behind
  abbrev Ends : ℕ → List ℕ → Type 0
  Ends r out' =
      ((speeds : List ℕ) (ts : List Task) (b : DispatcherBook) → b.clock ≡ 0 → Put 1800000 before from (passes_text speeds ts b start passes) r out')
      × (state ≡ bytes_after start (passes_in passes))

  -- no pass is left, and what is left to say is stored
  ends :
      {r : ℕ} {out' : List ℕ} (rest : List ℕ) →
      length passes ≤ 65536 →
      rest ≡ drop (2 * k) passes →
      [] ≡ passes_in rest →
      Put 52 out at (text_at clock state rest) r out' →
      Ends r out'
  ends {r} {out'} rest few e none p =
      let whole : Put 1800000 before from (text_at 0 start passes) r out' =
      record {
        place = p.place ∙ ap (λ (l : List ℕ). at + length (text_at clock state l)) e ∙ g.place;
        bytes = p.bytes ∙ ap (λ (l : List ℕ). sets out at (text_at clock state l)) e ∙ g.bytes;
        near = omega (arith, g.near, g.inside, p.near);
      } in (
        λ speeds ts b h. as_text whole (same_text no_speeds speeds no_tasks ts (book_at 0) b (sym h) start passes) (omega arith),
        ap (λ (ps : List Pass). bytes_after state ps) (none ∙ ap passes_in e) ∙ g.states,
      )

  -- no byte is left
  pub going_even : length passes ≤ 65536 → length passes ≤ 2 * k → Ends at out
  going_even few h =
      ends [] few (sym (drop_of_length-le passes h)) refl record { place = sym (add-zero at); bytes = refl; near = omega arith }

  -- an odd byte is left
  pub going_odd :
      {r : ℕ} {out' : List ℕ} →
      length passes ≤ 65536 →
      2 * k < length passes →
      length passes ≤ 2 * k + 1 →
      Put 52 out at (refused_line 16) r out' →
      Ends r out'
  going_odd few h last p =
      let odd : ℕ = get_or passes (2 * k) 0 in
      let one : drop (2 * k) passes ≡ odd ∷ [] =
      drop-cons passes (2 * k) 0 h ∙ ap (λ (l : List ℕ). odd ∷ l) (drop_of_length-le passes {i = suc (2 * k)} (omega arith)) in
      ends (odd ∷ []) few (sym one) refl p
