-- A list of passes that is played: one pass more, and the end.
-- Assumes nothing.
use Prim.Native.Nat.{ℕ, suc, min, ◌+◌, ◌≤◌, ◌<◌}
use mathlib.Core.Path.{◌≡◌, refl, sym, ap, ap₂, ◌∙◌}
use mathlib.Core.List.{List, [], ◌∷◌, ◌++◌, map}
use native.Mathlib.Numerals.{add-one}
use native.Mathlib.Omega.{arith}
use native.Mathlib.Decide.{dec_le}
use lib.ListN.{length, get_or, take, drop, set, length-map, length-set}
use lib.Seq.{take-suc, drop-cons, set_at, append_snoc, length-take-le, take_all, take-length}
use Rattle.reclaiming.specs.Passes.{Pass}
use Rattle.reclaiming.specs.Books.{Answered}
use Rattle.reclaiming.specs.Calls.{pass_reply, pass_bytes}
use Rattle.reclaiming.specs.Run.{trace, bytes_after}
use Rattle.reclaiming.specs.Numbers.{reply_number}
use Rattle.reclaiming.specs.Play.{pass_from, played_passes, reply_numbers}
use Rattle.arith.proofs.ListLaws.{map_snoc}

-- the first i passes: one more, and the replies that they leave
played_more :
    (passes : List ℕ) (i : ℕ) → i < length passes → played_passes passes (i + 1) ≡ played_passes passes i ++ (pass_from (get_or passes i 0) ∷ [])
played_more passes i h =
    ap (played_passes passes) (add-one i)
    ∙ ap (map pass_from) (take-suc passes i 0 h)
    ∙ map_snoc pass_from (take i passes) (get_or passes i 0)

-- a run of one pass more
bytes_snoc :
    (s : List ℕ) (ps : List Pass) (p : Pass) →
    bytes_after s (ps ++ (p ∷ [])) ≡ pass_bytes (bytes_after s ps) p.d p.finished
bytes_snoc s [] p = refl
bytes_snoc s (q ∷ ps) p = bytes_snoc (pass_bytes s q.d q.finished) ps p

abbrev answer : List ℕ → Pass → Answered
answer s p = record { pass = p; reply = pass_reply s p.d p.finished }

trace_snoc : (s : List ℕ) (ps : List Pass) (p : Pass) → trace s (ps ++ (p ∷ [])) ≡ trace s ps ++ (answer (bytes_after s ps) p ∷ [])
trace_snoc s [] p = refl
trace_snoc s (q ∷ ps) p = ap (λ (l : List Answered). answer s q ∷ l) (trace_snoc (pass_bytes s q.d q.finished) ps p)

trace_length : (s : List ℕ) (ps : List Pass) → length (trace s ps) ≡ length ps
trace_length s [] = refl
trace_length s (q ∷ ps) = ap suc (trace_length (pass_bytes s q.d q.finished) ps)

abbrev replies_to : List ℕ → List ℕ → List ℕ → ℕ → List ℕ
replies_to s passes replies i = reply_numbers (trace s (played_passes passes i)) ++ drop i replies

-- a list of passes on its way: the first i are played
pub record PlayedTo (start passes found state replies : List ℕ) (i : ℕ) : Type 0 where
  pub below : i ≤ length passes
  pub room : i ≤ length found
  pub state_kept : length state ≡ length start
  pub replies_kept : length replies ≡ length found
  pub state_is : state ≡ bytes_after start (played_passes passes i)
  pub replies_are : replies ≡ replies_to start passes found i

pub played_none : (start passes found : List ℕ) → PlayedTo start passes found start found 0
played_none start passes found = record {
  below = omega arith;
  room = omega arith;
  state_kept = refl;
  replies_kept = refl;
  state_is = refl;
  replies_are = refl;
}

module _ {start passes found state replies : List ℕ} {i : ℕ} (so_far : PlayedTo start passes found state replies i) where
  -- pass i, on the state as it is, and its reply
  abbrev pass : Pass
  pass = pass_from (get_or passes i 0)

  abbrev front : List ℕ
  front = reply_numbers (trace start (played_passes passes i))

  front_length : length front ≡ i
  front_length =
      length-map (trace start (played_passes passes i)) (λ (a : Answered). reply_number a.reply)
      ∙ trace_length start (played_passes passes i)
      ∙ length-map (take i passes) pass_from
      ∙ length-take-le i passes so_far.below

  module _ (h : i < length passes) (k : i < length replies) where
    state_more : pass_bytes state pass.d pass.finished ≡ bytes_after start (played_passes passes (i + 1))
    state_more =
        ap (λ (b : List ℕ). pass_bytes b pass.d pass.finished) so_far.state_is
        ∙ sym (ap (bytes_after start) (played_more passes i h) ∙ bytes_snoc start (played_passes passes i) pass)

    replies_more :
        (x : ℕ) → x ≡ reply_number (pass_reply state pass.d pass.finished) → set replies i x ≡ replies_to start passes found (i + 1)
    replies_more x n =
        let now : List ℕ = bytes_after start (played_passes passes i) in
        let value : x ≡ reply_number (pass_reply now pass.d pass.finished) =
        n ∙ ap (λ (b : List ℕ). reply_number (pass_reply b pass.d pass.finished)) so_far.state_is in
        let one : front ++ (x ∷ []) ≡ reply_numbers (trace start (played_passes passes (i + 1))) =
        ap (λ (y : ℕ). front ++ (y ∷ [])) value
        ∙ sym (ap (λ (y : List Pass). reply_numbers (trace start y)) (played_more passes i h)
        ∙ ap reply_numbers (trace_snoc start (played_passes passes i) pass)
        ∙ map_snoc (λ (a : Answered). reply_number a.reply) (trace start (played_passes passes i)) (answer now pass)) in
        ap (λ (y : List ℕ). set y i x)
        (so_far.replies_are ∙ ap (λ (y : List ℕ). front ++ y) (drop-cons found i 0 (omega (arith, so_far.replies_kept))))
        ∙ set_at front (get_or found i 0) (drop (suc i) found) x i front_length
        ∙ sym (append_snoc front x (drop (suc i) found))
        ∙ ap₂ (λ (y : List ℕ) (n : ℕ). y ++ drop n found) one (sym (add-one i))

    pub played_next :
        {m : List ℕ} {x : ℕ} →
        length m ≡ length state →
        m ≡ pass_bytes state pass.d pass.finished →
        x ≡ reply_number (pass_reply state pass.d pass.finished) →
        PlayedTo start passes found m (set replies i x) (i + 1)
    played_next {m} {x} same e n = record {
      below = omega arith;
      room = omega (arith, so_far.replies_kept);
      state_kept = same ∙ so_far.state_kept;
      replies_kept = length-set replies i x ∙ so_far.replies_kept;
      state_is = e ∙ state_more;
      replies_are = replies_more x n;
    }

  -- the end: all passes are played, or there is no more room
  abbrev ps : List Pass
  ps = played_passes passes (length found)

  abbrev AllPlayed : Type 0
  AllPlayed = (state ≡ bytes_after start ps) × (replies ≡ reply_numbers (trace start ps) ++ drop (length ps) found)

  played_end : played_passes passes i ≡ ps → AllPlayed
  played_end e =
      let n : i ≡ length ps =
      sym (sym (ap length e) ∙ length-map (take i passes) pass_from ∙ length-take-le i passes so_far.below) in (
        so_far.state_is ∙ ap (bytes_after start) e,
        so_far.replies_are ∙ ap₂ (λ (y : List Pass) (k : ℕ). reply_numbers (trace start y) ++ drop k found) e n,
      )

  pub played_out : {n : ℕ} → n ≡ min (length passes) (length found) → n ≤ i → AllPlayed
  played_out e h =
      elim (dec_le (length found) (length passes)) [
        | yes few ↦ let full : i ≡ length found = omega (arith, so_far.room) in played_end (ap (played_passes passes) full)
        | no many ↦
            let all : i ≡ length passes = omega (arith, so_far.below) in
            played_end
            (ap (map pass_from) (ap (λ (k : ℕ). take k passes) all ∙ take-length passes ∙ sym (take_all (length found) passes (omega arith))))
      ]
