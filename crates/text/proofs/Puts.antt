-- Texts stored one after another; a number digit by digit.
-- Assumes nothing.
use Prim.Native.Nat.{ℕ, zero, suc, ◌+◌, ◌-◌, ◌/◌, ◌%◌, ◌<◌, ◌≤◌}
use mathlib.Core.Bool.{Bool}
use mathlib.Core.Path.{◌≡◌, refl, sym, subst, ap, ap₂, ◌∙◌}
use mathlib.Core.List.{List, [], ◌∷◌, ◌++◌}
use native.Mathlib.Omega.{arith}
use borrow.Author.Tests.{lt-ltb, le-ltb}
use lib.ListN.{length-append}
use lib.Seq.{sets}
use Rattle.arith.specs.Choice.{pick}
use Rattle.transcript.specs.Text.{decimal_within}
use Rattle.text.specs.Stores.{Put}
use Rattle.arith.proofs.Stores.{sets_append}

-- a text, then another
infixr 40 ◌then◌
pub ◌then◌ :
    {m n at r q : ℕ} {a b c s t : List ℕ} → Put m a at s r b → Put n b r t q c → Put (m + n) a at (s ++ t) q c
◌then◌ {m} {n} {at} {r} {q} {a} {b} {c} {s} {t} p w = record {
  place = omega (arith, p.place, w.place, length-append s t);
  bytes = w.bytes ∙ ap₂ (λ (x : List ℕ) (k : ℕ). sets x k t) p.bytes p.place ∙ sym (sets_append a at s t);
  near = omega (arith, p.near, w.near);
}

-- a wider bound
pub wider : {m n at r : ℕ} {a b s : List ℕ} → Put m a at s r b → m ≤ n → Put n a at s r b
wider p h = record { place = p.place; bytes = p.bytes; near = omega (arith, p.near) }

-- the same text, otherwise written
pub as_text : {m n at r : ℕ} {a b s t : List ℕ} → Put m a at s r b → s ≡ t → m ≤ n → Put n a at t r b
as_text {m} {n} {at} {r} {a} {b} p e h = wider (subst (λ (x : List ℕ). Put m a at x r b) e p) h

-- a number in decimal: no digit before its last, a number of one digit, and one of more
pub digits_none :
    (more n : ℕ) {at r : ℕ} {a b : List ℕ} →
    more ≡ 0 →
    Put 1 a at ((48 + n % 10) ∷ []) r b →
    Put (more + 1) a at (decimal_within more n) r b
digits_none zero n e p = p
digits_none (suc more) n e p = absurd (omega arith)

pub digits_one :
    (more n : ℕ) {at r : ℕ} {a b : List ℕ} →
    (more ≡ 0 → ⊥) →
    n < 10 →
    Put 1 a at ((48 + n % 10) ∷ []) r b →
    Put (more + 1) a at (decimal_within more n) r b
digits_one zero n h l p = absurd (h refl)
digits_one (suc more) n h l p =
    let e : n % 10 ≡ n = omega arith in
    as_text p
    (ap (λ (k : ℕ). (48 + k) ∷ []) e
    ∙ sym (ap (λ (t : Bool). pick t ((48 + n) ∷ []) (decimal_within more (n / 10) ++ ((48 + n % 10) ∷ []))) (lt-ltb n 10 l)))
    (omega arith)

pub digits_more :
    (more n : ℕ) {at r q : ℕ} {a b c : List ℕ} →
    (more ≡ 0 → ⊥) →
    10 ≤ n →
    Put (more - 1 + 1) a at (decimal_within (more - 1) (n / 10)) r b →
    Put 1 b r ((48 + n % 10) ∷ []) q c →
    Put (more + 1) a at (decimal_within more n) q c
digits_more zero n h l p w = absurd (h refl)
digits_more (suc more) n h l p w =
    let e : suc more - 1 ≡ more = omega arith in
    as_text (p then w)
    (ap (λ (k : ℕ). decimal_within k (n / 10) ++ ((48 + n % 10) ∷ [])) e
    ∙ sym (ap (λ (t : Bool). pick t ((48 + n) ∷ []) (decimal_within more (n / 10) ++ ((48 + n % 10) ∷ []))) (le-ltb n 10 l)))
    (omega arith)
