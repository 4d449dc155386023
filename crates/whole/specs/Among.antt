-- A number that is one of a list. Assumes nothing.
use Rattle.std.specs.Prelude.{◌≡◌, refl, Bool, true, false, cond, ◌||◌, ◌&&◌, List, [], ◌∷◌, ℕ, suc, eqb}
use Rattle.std.proofs.Common.{sym, subst, ◌∙◌, arith, eqb-true, ne_eqb}
use Rattle.std.proofs.lemmas.Bool.{false≢true}
use Rattle.whole.specs.Bools.{and-true}

-- a test that passes in both cases
or_case : (a b c : Bool) → (a ≡ true → c ≡ true) → (b ≡ true → c ≡ true) → (a || b) ≡ true → c ≡ true
or_case true b c f g e = f refl
or_case false b c f g e = g e

abbrev pub among : List ℕ → ℕ → Bool
among [] k = false
among (n ∷ ns) k = eqb k n || among ns k

-- every number of a list is one of another
abbrev pub within : List ℕ → List ℕ → Bool
within [] ns = true
within (m ∷ ms) ns = among ns m && within ms ns

pub among-within : (ms ns : List ℕ) → within ms ns ≡ true → (k : ℕ) → among ms k ≡ true → among ns k ≡ true
among-within [] ns w k e = absurd (false≢true e)
among-within (m ∷ ms) ns w k e =
    let v = and-true (among ns m) (within ms ns) w in
    or_case (eqb k m) (among ms k) (among ns k) (λ f. rw (eqb-true k m f) v.0) (among-within ms ns v.1 k) e

-- one of two, whichever is chosen
pub among-cond : (ns : List ℕ) (b : Bool) (m n : ℕ) → among ns m ≡ true → among ns n ≡ true → among ns (cond b m n) ≡ true
among-cond ns true m n e f = e
among-cond ns false m n e f = f

-- where 0 is none of the others
pub among-rest : (ns : List ℕ) (k : ℕ) → among (0 ∷ ns) (suc k) ≡ true → among ns (suc k) ≡ true
among-rest ns k e = rw (ne_eqb (suc k) 0 (λ z. omega arith)) at e

-- what is not on the list
pub not-among : (ns : List ℕ) (m n : ℕ) → among ns m ≡ false → among ns n ≡ true → n ≡ m → ⊥
not-among ns m n e f z = false≢true (sym e ∙ subst (λ (k : ℕ). among ns k ≡ true) z f)
