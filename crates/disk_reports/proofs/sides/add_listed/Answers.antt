-- A place more of the list, or bytes that name none.
use Rattle.std.proofs.Common.{ap, arith, length, lit<, refl, sym, ◌∙◌, ◌<◌, ◌+◌, ◌*◌, ◌++◌, ◌∷◌, [], List, take, ℕ}
use Rattle.std.proofs.Math.Seq.{take-append_seam}
use Rattle.std.proofs.lemmas.List.{append-nil, append_assoc, take_all}
use Rattle.d64_image.specs.declared.place.Place.{Place}
use Rattle.disk_layout.proofs.lemmas.chains.Names.{named-match}
use Rattle.disk_reports.proofs.Found.{listed-more, listed-none}
use Rattle.disk_reports.proofs.sides.add_listed.Goals as goal

pub loop-number-init : goal.loop-number-init
loop-number-init c = record {
  many = sym c.len-known.ensures.value;
  low = omega (arith, c.len-known.ensures.value, c.requires.known);
  grown = ([], sym (append-nil c.args.all.now.items));
  only = λ more long each.
      sym (ap (λ (n : ℕ). take n (c.args.all.now.items ++ more)) c.len-known.ensures.value
      ∙ take-append_seam c.args.all.now.items more);
}

pub push-requires : goal.push-requires
push-requires c =
    let h : length c.loop-number.all.items < 6 = omega (arith, c.loop-number.invariant.many, c.loop-number-test.true, c.requires.few) in (lit< tt, h)

pub returns-in_default-clause-only : goal.returns-in_default-clause-only
returns-in_default-clause-only c more long each =
    absurd (listed-none c.args.bytes.now (c.args.all.now.items ++ more) c.loop-number.number
    (omega (arith, long, c.loop-number-test.true)) each
    (named-match c.args.bytes.now _ (4 + 2 * c.loop-number.number) _ c.new.ensures c.in_default.ensures))

pub loop-number-preserved : goal.loop-number-preserved
loop-number-preserved c =
    let old = c.loop-number.invariant in
    let n = c.loop-number.number in
    let side = c.in-Some.side in
    record {
      many = omega (arith, c.push.ensures.len, old.many);
      low = omega (arith, c.loop-number-test.true);
      grown = (
        old.grown.0 ++ side ∷ [],
        c.push.ensures.items ∙ ap (λ (xs : List Place). xs ++ side ∷ []) old.grown.1
            ∙ append_assoc c.args.all.now.items old.grown.0 (side ∷ []),
      );
      only = λ more long each. c.push.ensures.items
          ∙ listed-more c.args.bytes.now (c.args.all.now.items ++ more) c.loop-number.all.items n side
          (omega (arith, long, c.loop-number-test.true)) each
          (named-match c.args.bytes.now _ (4 + 2 * n) _ c.new.ensures c.in-Some.ensures) (old.only more long each);
    }

pub returns-clause-right : goal.returns-clause-right
returns-clause-right c on =
    let old = c.loop-number.invariant in
    (old.grown.0, omega (arith, old.many, old.low, c.loop-number-test.false), old.grown.1)

pub returns-clause-only : goal.returns-clause-only
returns-clause-only c more long each =
    let old = c.loop-number.invariant in (
      refl,
      old.only more long each
          ∙ take_all c.loop-number.number (c.args.all.now.items ++ more) (omega (arith, long, c.loop-number-test.false)),
    )
