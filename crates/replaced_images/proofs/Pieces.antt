-- The bytes of an image that is written piece by piece.
use Rattle.std.proofs.Common.{◌≡◌, ◌⊎◌, ℕ, zero, suc, ◌≤◌, ◌+◌, List, [], ◌∷◌, ◌++◌, length, Option, Some, None, slice_get, refl, sym, ◌∙◌, ap, subst, inl, inr, ⊎_elim, arith}
use Rattle.std.specs.Prelude.{take, drop, replicate, ◌-◌}
use Rattle.std.proofs.lemmas.List.{append-nil, drop-drop, length-drop, length-take-le, take_all}
use Rattle.std.proofs.lemmas.Option.{slice_get_past}
use Rattle.one_host.specs.Worlds.{IsMix, OneOf, Shows}
use Rattle.one_host.specs.Calls.{put}
use Rattle.replaced_images.specs.Stages.{AreWithin, IsWithin}

none_past : (xs : List ℕ) (j : ℕ) → slice_get xs j ≡ None → length xs ≤ j
none_past [] j is = omega arith
none_past (x ∷ xs) zero is = absurd (cc is)
none_past (x ∷ xs) (suc j) is = omega (arith, none_past xs j is)

-- m bytes of new from a place on, over those of c
splice : ℕ → ℕ → List ℕ → List ℕ → List ℕ
splice zero zero c new = c
splice zero (suc m) [] new = []
splice zero (suc m) (x ∷ c) [] = x ∷ c
splice zero (suc m) (x ∷ c) (y ∷ new) = y ∷ splice zero m c new
splice (suc at) m [] new = []
splice (suc at) m (x ∷ c) [] = x ∷ c
splice (suc at) m (x ∷ c) (y ∷ new) = x ∷ splice at m c new

is_splice : (at m : ℕ) (c new : List ℕ) → length c ≡ length new → at + m ≤ length new
    → take at c ++ take m (drop at new) ++ drop m (drop at c) ≡ splice at m c new
unfolding splice
is_splice zero zero c new same le = refl
is_splice zero (suc m) [] new same le = absurd (omega (arith, same, le))
is_splice zero (suc m) (x ∷ c) [] same le = absurd (omega (arith, same))
is_splice zero (suc m) (x ∷ c) (y ∷ new) same le = ap (λ (l : List ℕ). y ∷ l) (is_splice zero m c new (omega (arith, same)) (omega (arith, le)))
is_splice (suc at) m [] new same le = absurd (omega (arith, same, le))
is_splice (suc at) m (x ∷ c) [] same le = absurd (omega (arith, same))
is_splice (suc at) m (x ∷ c) (y ∷ new) same le = ap (λ (l : List ℕ). x ∷ l) (is_splice at m c new (omega (arith, same)) (omega (arith, le)))

splice_length : (at m : ℕ) (c new : List ℕ) → length (splice at m c new) ≡ length c
unfolding splice
splice_length zero zero c new = refl
splice_length zero (suc m) [] new = refl
splice_length zero (suc m) (x ∷ c) [] = refl
splice_length zero (suc m) (x ∷ c) (y ∷ new) = ap suc (splice_length zero m c new)
splice_length (suc at) m [] new = refl
splice_length (suc at) m (x ∷ c) [] = refl
splice_length (suc at) m (x ∷ c) (y ∷ new) = ap suc (splice_length at m c new)

splice_get : (at m : ℕ) (c new : List ℕ) (j : ℕ) → (slice_get (splice at m c new) j ≡ slice_get new j) ⊎ (slice_get (splice at m c new) j ≡ slice_get c j)
unfolding splice
splice_get zero zero c new j = inr refl
splice_get zero (suc m) [] new j = inr refl
splice_get zero (suc m) (x ∷ c) [] j = inr refl
splice_get zero (suc m) (x ∷ c) (y ∷ new) zero = inl refl
splice_get zero (suc m) (x ∷ c) (y ∷ new) (suc j) = splice_get zero m c new j
splice_get (suc at) m [] new j = inr refl
splice_get (suc at) m (x ∷ c) [] j = inr refl
splice_get (suc at) m (x ∷ c) (y ∷ new) zero = inr refl
splice_get (suc at) m (x ∷ c) (y ∷ new) (suc j) = splice_get at m c new j

splice_begun : (at m : ℕ) (c new : List ℕ) → length c ≡ length new → take at c ≡ take at new → take (at + m) (splice at m c new) ≡ take (at + m) new
unfolding splice
splice_begun zero zero c new same is = refl
splice_begun zero (suc m) [] [] same is = refl
splice_begun zero (suc m) [] (y ∷ new) same is = absurd (omega (arith, same))
splice_begun zero (suc m) (x ∷ c) [] same is = absurd (omega (arith, same))
splice_begun zero (suc m) (x ∷ c) (y ∷ new) same is =
    let more : zero + suc m ≡ suc (zero + m) = omega arith in
    ap (λ n. take n (y ∷ splice zero m c new)) more ∙ ap (λ (l : List ℕ). y ∷ l) (splice_begun zero m c new (omega (arith, same)) refl) ∙ ap (λ n. take n (y ∷ new)) (sym more)
splice_begun (suc at) m [] [] same is = refl
splice_begun (suc at) m [] (y ∷ new) same is = absurd (omega (arith, same))
splice_begun (suc at) m (x ∷ c) [] same is = absurd (omega (arith, same))
splice_begun (suc at) m (x ∷ c) (y ∷ new) same is =
    let more : suc at + m ≡ suc (at + m) = omega arith in
    let first : x ≡ y = cc is in
    let rest : take at c ≡ take at new = cc is in
    ap (λ n. take n (x ∷ splice at m c new)) more ∙ (λ i. first i ∷ splice_begun at m c new (omega (arith, same)) rest i) ∙ ap (λ n. take n (y ∷ new)) (sym more)

dropped : (at m : ℕ) (c : List ℕ) → drop (at + m) c ≡ drop m (drop at c)
dropped at m c = sym (drop-drop m at c)

put_is : (at m : ℕ) (c new : List ℕ) → length c ≡ length new → at + m ≤ length new → put c at (take m (drop at new)) ≡ splice at m c new
put_is at m c new same le =
    let none : at - length c ≡ 0 = omega (arith, same, le) in
    let size : length (take m (drop at new)) ≡ m = length-take-le m (drop at new) (omega (arith, le, length-drop at new)) in
    ap (λ n. take at c ++ replicate n 0 ++ take m (drop at new) ++ drop (at + length (take m (drop at new))) c) none
    ∙ ap (λ (l : List ℕ). l ++ take m (drop at new) ++ drop (at + length (take m (drop at new))) c) (append-nil (take at c))
    ∙ ap (λ n. take at c ++ take m (drop at new) ++ drop (at + n) c) size
    ∙ ap (λ (l : List ℕ). take at c ++ take m (drop at new) ++ l) (dropped at m c)
    ∙ is_splice at m c new same le

module _ (old new : List ℕ) (same : length old ≡ length new) where
  -- a piece of the new image is written
  pub put_within : (at m : ℕ) (c : List ℕ) → at + m ≤ length new → IsWithin old new c → IsWithin old new (put c at (take m (drop at new)))
  put_within at m c le w = subst (IsWithin old new) (sym (put_is at m c new w.size le)) (record {
    size = splice_length at m c new ∙ w.size;
    each = λ j. ⊎_elim (λ (e : slice_get (splice at m c new) j ≡ slice_get new j). inl e)
        (λ (e : slice_get (splice at m c new) j ≡ slice_get c j). ⊎_elim (λ f. inl (e ∙ f)) (λ f. inr (e ∙ f)) (w.each j))
        (splice_get at m c new j);
  })

  pub put_begun : (at m : ℕ) (c : List ℕ) → at + m ≤ length new → IsWithin old new c → take at c ≡ take at new
      → take (at + m) (put c at (take m (drop at new))) ≡ take (at + m) new
  put_begun at m c le w is = ap (take (at + m)) (put_is at m c new w.size le) ∙ splice_begun at m c new w.size is

  shown : (now : List ℕ) (before : List (List ℕ)) → AreWithin old new now before → (j : ℕ) (x : Option ℕ) → OneOf (λ was. Shows was j x) now before
      → ((x ≡ slice_get new j) ⊎ (x ≡ slice_get old j)) ⊎ ((length new ≤ j) × (x ≡ Some 0))
  shown now [] w j x = one now w
    where
      one : (was : List ℕ) → IsWithin old new was → Shows was j x → ((x ≡ slice_get new j) ⊎ (x ≡ slice_get old j)) ⊎ ((length new ≤ j) × (x ≡ Some 0))
      one was v = ⊎_elim (λ (e : x ≡ slice_get was j). inl (⊎_elim (λ f. inl (e ∙ f)) (λ f. inr (e ∙ f)) (v.each j)))
          (λ (z : (length was ≤ j) × (x ≡ Some 0)). inr (omega (arith, v.size, z.0), z.1))
  shown now (b ∷ before) w j x = ⊎_elim (one now w.0) (shown b before w.1 j x)
    where
      one : (was : List ℕ) → IsWithin old new was → Shows was j x → ((x ≡ slice_get new j) ⊎ (x ≡ slice_get old j)) ⊎ ((length new ≤ j) × (x ≡ Some 0))
      one was v = ⊎_elim (λ (e : x ≡ slice_get was j). inl (⊎_elim (λ f. inl (e ∙ f)) (λ f. inr (e ∙ f)) (v.each j)))
          (λ (z : (length was ≤ j) × (x ≡ Some 0)). inr (omega (arith, v.size, z.0), z.1))

  longest : (now : List ℕ) (before : List (List ℕ)) → AreWithin old new now before → (c : List ℕ) → OneOf (λ was. length c ≤ length was) now before → length c ≤ length new
  longest now [] w c le = omega (arith, w.size, le)
  longest now (b ∷ before) w c le = ⊎_elim (λ (le : length c ≤ length now). omega (arith, w.0.size, le)) (longest b before w.1 c) le

  -- a mix of such bytes is such bytes
  pub mixed_within : (now : List ℕ) (before : List (List ℕ)) → AreWithin old new now before → (c : List ℕ) → IsMix now before c → IsWithin old new c
  mixed_within now before w c m = record { size = size; each = λ j. each j (shown now before w j (slice_get c j) (m.each j)) }
    where
      short : length c ≤ length new
      short = longest now before w c m.size

      long : length new ≤ length c
      long = ⊎_elim
          (λ (s : (slice_get c (length c) ≡ slice_get new (length c)) ⊎ (slice_get c (length c) ≡ slice_get old (length c))). ⊎_elim
          (λ (e : slice_get c (length c) ≡ slice_get new (length c)). none_past new (length c) (sym e ∙ slice_get_past c (length c) (omega arith)))
          (λ (e : slice_get c (length c) ≡ slice_get old (length c)). omega (arith, same, none_past old (length c) (sym e ∙ slice_get_past c (length c) (omega arith)))) s)
          (λ (z : (length new ≤ length c) × (slice_get c (length c) ≡ Some 0)). z.0)
          (shown now before w (length c) (slice_get c (length c)) (m.each (length c)))

      size : length c ≡ length new
      size = omega (arith, short, long)

      each : (j : ℕ) → ((slice_get c j ≡ slice_get new j) ⊎ (slice_get c j ≡ slice_get old j)) ⊎ ((length new ≤ j) × (slice_get c j ≡ Some 0))
          → (slice_get c j ≡ slice_get new j) ⊎ (slice_get c j ≡ slice_get old j)
      each j = ⊎_elim (λ s. s) (λ (z : (length new ≤ j) × (slice_get c j ≡ Some 0)). absurd (gone (slice_get c j) z.1 (slice_get_past c j (omega (arith, short, z.0)))))
        where
          gone : (x : Option ℕ) → x ≡ Some 0 → x ≡ None → ⊥
          gone x e f = cc (e, f)

  pub mix_of_within : (c : List ℕ) → IsWithin old new c → IsMix new (old ∷ []) c
  mix_of_within c w = record {
    each = λ j. ⊎_elim (λ e. inl (inl e)) (λ e. inr (inl e)) (w.each j);
    size = inl (omega (arith, w.size));
  }

  pub old_within : IsWithin old new old
  old_within = record { size = same; each = λ j. inr refl }

  -- all was written
  pub all_written : (at : ℕ) (c : List ℕ) → length new ≤ at → IsWithin old new c → take at c ≡ take at new → c ≡ new
  all_written at c le w is = sym (take_all at c (omega (arith, le, w.size))) ∙ is ∙ take_all at new le
