-- Bytes that are written over others: what a power loss leaves of both.
use Rattle.std.proofs.Common.{◌≡◌, ◌≤◌, ◌+◌, ◌∙◌, ℕ, List, [], ◌∷◌, ◌++◌, ap, arith, inl, inr, ⊎_elim, length, refl, sym}
use Rattle.std.specs.Prelude.{◌-◌, drop, replicate, slice_get, slice_index, take, unwrap_or}
use Rattle.std.proofs.lemmas.List.{append-nil, append_assoc}
use Rattle.std.proofs.lemmas.Option.{unwrap_or-slice_get}
use Rattle.one_host.specs.Worlds.{IsMix}
use Rattle.one_host.specs.Calls.{put}
use Rattle.image_log.specs.Files.{Mixed, overwritten}
use Rattle.image_log.proofs.Commits.{blend_mixed, new_long}
use Rattle.replaced_images.specs.Stages.{AreWithin, IsWithin}
use Rattle.replaced_images.proofs.Pieces.{mixed_within, old_within}

-- what a call writes within a file
pub put_over : (f : List ℕ) (at : ℕ) (bytes : List ℕ) → at + length bytes ≤ length f → put f at bytes ≡ overwritten f at bytes
put_over f at bytes within =
    let none : at - length f ≡ 0 = omega (arith, within) in
    let rest = drop (at + length bytes) f in
    ap (λ n. take at f ++ replicate n 0 ++ bytes ++ rest) none
    ∙ ap (λ (l : List ℕ). l ++ bytes ++ rest) (append-nil (take at f))
    ∙ append_assoc (take at f) bytes rest

index_by : (xs : List ℕ) (j : ℕ) → unwrap_or (slice_get xs j) 0 ≡ slice_index xs j
index_by xs j = unwrap_or-slice_get xs j 0

pub same_at : (c x : List ℕ) (j : ℕ) → slice_get c j ≡ slice_get x j → slice_index c j ≡ slice_index x j
same_at c x j is = sym (index_by c j) ∙ ap (λ o. unwrap_or o 0) is ∙ index_by x j

module _ (f : List ℕ) (at : ℕ) (bytes : List ℕ) (within : at + length bytes ≤ length f) where
  abbrev new : List ℕ
  new = overwritten f at bytes

  pub same : length f ≡ length new
  same = sym (new_long f at bytes within)

  -- bytes of which each is the old one or the new one
  pub within_mixed : (c : List ℕ) → IsWithin f new c → Mixed at bytes f c
  within_mixed c w = blend_mixed f at bytes within c (record {
    size = w.size ∙ sym same;
    each = λ i. ⊎_elim (λ now. inr (same_at c new i now)) (λ was. inl (same_at c f i was)) (w.each i);
  })

  pub new_within : IsWithin f new new
  new_within = record { size = refl; each = λ j. inl refl }

  pub leaves_mixed : (now : List ℕ) (before : List (List ℕ)) → AreWithin f new now before → (c : List ℕ) → IsMix now before c → Mixed at bytes f c
  leaves_mixed now before are c mix = within_mixed c (mixed_within f new same now before are c mix)

  -- a part of the write was made
  pub part_within : (part : List ℕ) → IsMix new (f ∷ []) part → IsWithin f new part
  part_within part mix = mixed_within f new same new (f ∷ []) (new_within, old_within f new same) part mix
