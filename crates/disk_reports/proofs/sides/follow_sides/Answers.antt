-- The side sectors of a relative entry whose chain is whole.
use Rattle.std.proofs.Common.{arith, ap, inl, inr, length, subst, sym, ◌∙◌, ◌≡◌, ℕ}
use Rattle.std.specs.Prelude.{is_some}
use Rattle.std.proofs.lemmas.Bool.{false≢true}
use Rattle.d64_image.specs.Memory.{disk_image}
use Rattle.disk_layout.specs.Layout.{sides_for}
use Rattle.disk_reports.proofs.Found.{not-some, reached-some}
use Rattle.disk_reports.specs.Trails.{AreLinked, HasWholeChain}
use Rattle.disk_reports.proofs.sides.follow_sides.Goals as goal

pub returns-then-not-is_relative : goal.returns-then-not-is_relative
returns-then-not-is_relative c =
    inr (inl (λ h. false≢true (sym c.if-not-is_relative.true ∙ c.is_relative.ensures.relative ∙ h.0), c.clear.ensures))

pub returns-then-is_some : goal.returns-then-is_some
returns-then-is_some c =
    inr (inl (λ h. false≢true (sym (ap is_some h.1) ∙ sym c.is_some.ensures ∙ c.if-is_some.true), c.clear.ensures))

pub returns-in_default : goal.returns-in_default
returns-in_default c = inr (inr (c.in_default.ensures, c.clear.ensures))

pub follow_links-requires-clause-some : goal.follow_links-requires-clause-some
follow_links-requires-clause-some c =
    let whole : HasWholeChain c.args.slot.now c.args.end = (
      sym c.is_relative.ensures.relative ∙ c.if-not-is_relative.false,
      not-some c.args.end _ c.is_some.ensures
          c.if-is_some.false,
    ) in
    omega (arith, reached-some _ c.args.slot.now c.args.blocks.now c.args.end c.requires.reached whole, c.div_ceil.ensures)

pub returns : goal.returns
returns c =
    let count : c.div_ceil.result ≡ sides_for (length c.args.blocks.now) = omega (arith, c.div_ceil.ensures) in
    inl (
      (
        sym c.is_relative.ensures.relative ∙ c.if-not-is_relative.false,
        not-some c.args.end _ c.is_some.ensures
            c.if-is_some.false,
      ),
      (
        c.in-Some.first,
        c.in-Some.ensures,
        subst (λ (n : ℕ). AreLinked (disk_image c.args.disk.now) c.in-Some.first n c.follow_links.new.places.items) count
            c.follow_links.ensures,
      ),
    )
