-- The buckets kept beside the scan of 8: the bucket of each vertex passed so far is met, and none of them shares its place. Assumes nothing.
use mathlib.Core.Path.{◌≡◌, sym, ap, ◌∙◌}
use mathlib.Core.Bool.{Bool, true, false, false≢true}
use mathlib.Core.List.{List}
use Prim.Native.Nat.{ℕ, ◌+◌, ◌<◌}
use native.Mathlib.Decide.{ℕ_discrete}
use lib.IntN.{ℤ}
use lib.ListN.{length, get_or, set, length-set}
use lib.Seq.{get_or-set_same, get_or-set_other}
use borrow.Author.Count.{below_more}
use Rattle.whole.specs.Bools.{and-true, is_false}
use Rattle.whole.specs.Test.{eq_z, eq_z-true}
use Rattle.whole.specs.First.{some, some-none}
use Rattle.geometry.specs.declared.Place.{Place}
use Rattle.delaunay.specs.Delaunay.{same_place, stands_at}
use Rattle.delaunay.specs.Buckets.{bucket_count, bucket_of}

-- one place has one bucket
same-bucket : (p q : Place) → same_place p q ≡ true → bucket_of p ≡ bucket_of q
same-bucket p q e =
    let t = and-true (eq_z p.x q.x) (eq_z p.y q.y) e in
    ap (λ (x : ℤ). bucket_of (record { x = x; y = p.y })) (eq_z-true p.x q.x t.0)
    ∙ ap (λ (y : ℤ). bucket_of (record { x = q.x; y = y })) (eq_z-true p.y q.y t.1)

module _ (place : ℕ → Place) where
  pub record Met (met : List Bool) (v : ℕ) : Type 0 where
    pub size : length met ≡ bucket_count
    pub seen : (k : ℕ) → k < v → get_or met (bucket_of (place k)) false ≡ true
    pub none : (k : ℕ) → k < v → some (stands_at place (place k)) k ≡ false

  module _ (met : List Bool) (v b : ℕ) (s : Met met v) (e : b ≡ bucket_of (place v)) where
    -- a vertex whose bucket is not met shares no place
    pub met-first : get_or met b false ≡ false → some (stands_at place (place v)) v ≡ false
    met-first f =
        some-none (stands_at place (place v)) v
        (λ k l.
        is_false (same_place (place k) (place v))
        (λ t. false≢true (sym f ∙ ap (λ (i : ℕ). get_or met i false) (e ∙ sym (same-bucket (place k) (place v) t)) ∙ s.seen k l)))

    -- one that shares no place is passed, and its bucket is met
    pub met-more : b < bucket_count → some (stands_at place (place v)) v ≡ false → Met (set met b true) (v + 1)
    met-more l f =
        record {
          size = length-set met b true ∙ s.size;
          seen = below_more _ _ (λ k m. at k (s.seen k m) (ℕ_discrete (bucket_of (place k)) b)) (same (bucket_of (place v)) (sym e));
          none = below_more _ _ s.none f;
        }
      where
        same : (i : ℕ) → i ≡ b → get_or (set met b true) i false ≡ true
        same i d = ap (λ (j : ℕ). get_or (set met b true) j false) d ∙ get_or-set_same met b true false (rw s.size l)

        at : (k : ℕ) → get_or met (bucket_of (place k)) false ≡ true → Dec (bucket_of (place k) ≡ b) → get_or (set met b true) (bucket_of (place k)) false ≡ true
        at k t (yes d) = same (bucket_of (place k)) d
        at k t (no d) = get_or-set_other met b (bucket_of (place k)) true false d ∙ t
