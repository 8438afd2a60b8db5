-- Messages that ask nothing new leave the disk alone.
use Rattle.std.proofs.Common.{◌≡◌, ◌≤◌, arith, sym, subst, ◌∙◌}
use Rattle.host_session.proofs.lemmas.Held.{at_end, then, weaker}
use Rattle.d64_image.specs.Fuses.{fuse, fuse_disk}
use Rattle.d64_image.specs.History.{History}
use Rattle.host_session.specs.Held.{HeldOnly}
use Rattle.d64_image.specs.declared.fuse.Fuse.{Fuse}
use Rattle.host_session.proofs.lemmas.Held.{changes_beneath}
use Rattle.host_session.specs.session.Opening.{Untouched}
use Rattle.host_session.specs.shop.Shop.{IsSettled, Shop}

module _ {D : Type 0} (h : History D) where
  -- one image alone was held, and then again
  pub held_on : (a b c : D) → HeldOnly h a b (λ i. i ≡ h.image a)
      → (h.image b ≡ h.image a → HeldOnly h b c (λ i. i ≡ h.image b)) → HeldOnly h a c (λ i. i ≡ h.image a)
  held_on a b c first next =
      let same = at_end h a b (λ i. i ≡ h.image a) first in
      (then) h a b c (λ i. i ≡ h.image a) first
      (weaker h b c (λ i. i ≡ h.image b) (λ i. i ≡ h.image a) (λ i e. e ∙ same) (next same))

  -- nothing was written, and then again
  pub untouched_on : (a b c : D) → Untouched h a b → (h.image b ≡ h.image a → Untouched h b c) → Untouched h a c
  untouched_on a b c first next =
      let more = next (at_end h a b (λ i. i ≡ h.image a) first.held) in
      record {
        held = held_on a b c first.held (λ same. (next same).held);
        writes = omega (arith, first.writes, more.writes);
      }

  -- a message that wrote nothing, and openings behind it
  pub spared_then : (s : Shop) (a b c d : D) → h.writes b ≤ h.writes a → HeldOnly h a b (λ i. i ≡ h.image a)
      → IsSettled (h.image a) s → (IsSettled (h.image b) s → Untouched h b c)
      → (IsSettled (h.image c) s → Untouched h c d)
      → HeldOnly h a d (λ i. i ≡ h.image a) × (h.writes d ≤ h.writes a)
  spared_then s a b c d first held rests second third =
      let there = subst (λ i. IsSettled i s) (sym (at_end h a b (λ i. i ≡ h.image a) held)) rests in
      let behind = untouched_on b c d (second there) (λ same. third (subst (λ i. IsSettled i s) (sym same) there)) in
      (held_on a b d held (λ _. behind.held), omega (arith, first, behind.writes))

  -- an opening of a disk at rest, over a fuse
  pub cut_quiet : (s : Shop) (d r : D) (a b : Fuse D) → fuse_disk a ≡ d → r ≡ fuse_disk b → IsSettled (h.image d) s
      → (IsSettled (h.image (fuse_disk a)) s → Untouched (fuse h) a b) → Untouched h d r
  cut_quiet s d r a b is ends rests quiet =
      subst (λ (x : D). Untouched h x r) is
      (subst (λ (x : D). Untouched h (fuse_disk a) x) (sym ends)
      (changes_beneath h a b 0 (λ i. i ≡ h.image (fuse_disk a))
      (quiet (subst (λ (x : D). IsSettled (h.image x) s) (sym is) rests))))
