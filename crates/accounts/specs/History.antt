-- One ruling more at the end of a history: what it does to the live bends of a section, and to all charges. Assumes nothing.
use Rattle.std.specs.Prelude.{◌≡◌, refl, List, [], ◌∷◌, ◌++◌, Bool, true, false, cond, ◌||◌, ℕ, ◌+◌, length}
use Rattle.std.proofs.Common.{sym, ◌∙◌, ap, append-nil, arith, length-append, eq-eqb, ne_eqb}
use Rattle.std.proofs.Math.Bool.{or-false, or-true}
use Rattle.entries.specs.Ruling.{Ruling}
use Rattle.entries.specs.Ruling.Ruling.{Bend, Splice, Refused}
use Rattle.accounts.specs.Tally.{bends, splices, keep, any_splice, since, live_bends, wear_sum, bend_count, charges}

-- ---- the filters, one ruling more at the end
any_snoc : (i : ℕ) (h : List Ruling) (r : Ruling) → any_splice i (h ++ (r ∷ [])) ≡ (any_splice i h || splices i r)
any_snoc i [] r = or-false (splices i r)
any_snoc i (x ∷ h) r = go (any_snoc i h r) (splices i x)
  where
    go : any_splice i (h ++ (r ∷ [])) ≡ (any_splice i h || splices i r) → (t : Bool) → (t || any_splice i (h ++ (r ∷ []))) ≡ ((t || any_splice i h) || splices i r)
    go ih true = refl
    go ih false = ih

keep_snoc : (p : Ruling → Bool) (h : List Ruling) (r : Ruling) → keep p (h ++ (r ∷ [])) ≡ keep p h ++ cond (p r) (r ∷ []) []
keep_snoc p [] r = refl
keep_snoc p (x ∷ h) r = go (keep_snoc p h r) (p x)
  where
    go : keep p (h ++ (r ∷ [])) ≡ keep p h ++ cond (p r) (r ∷ []) [] → (t : Bool) → cond t (x ∷ keep p (h ++ (r ∷ []))) (keep p (h ++ (r ∷ []))) ≡ cond t (x ∷ keep p h) (keep p h) ++ cond (p r) (r ∷ []) []
    go ih true = ap (λ (l : List Ruling). x ∷ l) ih
    go ih false = ih

-- all charges of two parts
pub sum-append : (xs ys : List Ruling) → charges (xs ++ ys) ≡ charges xs + charges ys
sum-append [] ys = omega arith
sum-append (x ∷ xs) ys = omega (arith, sum-append xs ys)

-- a ruling that is no splice of section i stays at the end of what follows its last splice
since-plain : (i : ℕ) (h : List Ruling) (r : Ruling) → splices i r ≡ false → since i (h ++ (r ∷ [])) ≡ since i h ++ (r ∷ [])
since-plain i [] r e = rw (or-false (splices i r), e) refl
since-plain i (x ∷ h) r e =
    rw (any_snoc i h r, e, or-false (any_splice i h)) (go (since-plain i h r e) (splices i x || any_splice i h))
  where
    go : since i (h ++ (r ∷ [])) ≡ since i h ++ (r ∷ []) → (t : Bool) → cond t (since i (h ++ (r ∷ []))) (x ∷ (h ++ (r ∷ []))) ≡ cond t (since i h) (x ∷ h) ++ (r ∷ [])
    go ih true = ih
    go ih false = refl

-- nothing follows a splice of section i that stands at the end
since-splice : (i : ℕ) (h : List Ruling) (r : Ruling) → splices i r ≡ true → since i (h ++ (r ∷ [])) ≡ []
since-splice i [] r e = rw e refl
since-splice i (x ∷ h) r e = rw (any_snoc i h r, e, or-true (any_splice i h), or-true (splices i x)) (since-splice i h r e)

-- so it joins the live bends where it is a bend of section i
live-plain : (i : ℕ) (h : List Ruling) (r : Ruling) → splices i r ≡ false → live_bends i (h ++ (r ∷ [])) ≡ live_bends i h ++ cond (bends i r) (r ∷ []) []
live-plain i h r e = ap (keep (bends i)) (since-plain i h r e) ∙ keep_snoc (bends i) (since i h) r

-- and none is left after a splice of it
live-splice : (i : ℕ) (h : List Ruling) (r : Ruling) → splices i r ≡ true → live_bends i (h ++ (r ∷ [])) ≡ []
live-splice i h r e = ap (keep (bends i)) (since-splice i h r e)

-- a ruling that is neither bend nor splice of section i leaves its live bends
live-other : (i : ℕ) (h : List Ruling) (r : Ruling) → splices i r ≡ false → bends i r ≡ false → live_bends i (h ++ (r ∷ [])) ≡ live_bends i h
live-other i h r e f = live-plain i h r e ∙ (ap (λ (t : Bool). live_bends i h ++ cond t (r ∷ []) []) f ∙ append-nil (live_bends i h))

-- a bend of section i is live
live-bend : (i : ℕ) (h : List Ruling) (n : ℕ) → live_bends i (h ++ (Bend i n ∷ [])) ≡ live_bends i h ++ (Bend i n ∷ [])
live-bend i h n = live-plain i h (Bend i n) refl ∙ ap (λ (t : Bool). live_bends i h ++ cond t (Bend i n ∷ []) []) (eq-eqb i i refl)

-- ---- the sums and counts
pub wear-bend : (i : ℕ) (h : List Ruling) (n : ℕ) → wear_sum i (h ++ (Bend i n ∷ [])) ≡ wear_sum i h + n
wear-bend i h n = ap charges (live-bend i h n) ∙ omega (arith, sum-append (live_bends i h) (Bend i n ∷ []))

pub count-bend : (i : ℕ) (h : List Ruling) (n : ℕ) → bend_count i (h ++ (Bend i n ∷ [])) ≡ bend_count i h + 1
count-bend i h n = ap length (live-bend i h n) ∙ length-append (live_bends i h) (Bend i n ∷ [])

pub live-bend-other : (i j : ℕ) (h : List Ruling) (n : ℕ) → (i ≡ j → ⊥) → live_bends i (h ++ (Bend j n ∷ [])) ≡ live_bends i h
live-bend-other i j h n ne = live-other i h (Bend j n) refl (ne_eqb j i (λ e. ne (sym e)))

pub live-splice-same : (i : ℕ) (h : List Ruling) → live_bends i (h ++ (Splice i ∷ [])) ≡ []
live-splice-same i h = live-splice i h (Splice i) (eq-eqb i i refl)

pub live-splice-other : (i j : ℕ) (h : List Ruling) → (i ≡ j → ⊥) → live_bends i (h ++ (Splice j ∷ [])) ≡ live_bends i h
live-splice-other i j h ne = live-other i h (Splice j) (ne_eqb j i (λ e. ne (sym e))) refl

pub live-refused : (i k : ℕ) (h : List Ruling) → live_bends i (h ++ (Refused k ∷ [])) ≡ live_bends i h
live-refused i k h = live-other i h (Refused k) refl refl
