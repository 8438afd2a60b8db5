-- The text of the lines is written byte by byte.
use Rattle.std.proofs.Common.{◌++◌, ◌∙◌, List, [], ap, arith, get_or, refl, rules, subst, sym, true, ℕ}
use Rattle.std.proofs.lemmas.Grind.{put_two}
use Rattle.std.proofs.lemmas.List.{append-nil}
use Rattle.std.specs.Fmt.{HasWritten}
use Rattle.line_text.proofs.lemmas.basic.Walked.{text-end, text-more, text-none, text_from}
use Rattle.line_text.specs.basic.Places.{text_at}
use Rattle.line_text.specs.declared.basic.places.BytePlace.{BytePlace}
use Rattle.line_text.proofs.basic.listing.LinesDisplay.fmt.Goals as goal

pub loop-byte-init : goal.loop-byte-init
loop-byte-init g c = λ plain. ([], search rules, refl)

pub loop-byte-preserved : goal.loop-byte-preserved
loop-byte-preserved g c = λ plain.
    let so_far = c.loop-byte.invariant plain in
    let here = text_at c.loop-byte.at (get_or c.args.self.now.bytes.now c.loop-byte.byte-index 0) in (
      so_far.0 ++ here,
      put_two g.W.Write.write_str_gives c.args.f.now c.loop-byte.f c.write.new.self so_far.0 here _ so_far.1
          (c.in_ok-write.ensures.writes so_far.1.plain (refl {a = true})) refl,
      rw c.after-at.ensures (text-more _ so_far.0 c.loop-byte.at c.args.self.now.bytes.now c.loop-byte.byte-index
          (omega arith) so_far.2),
    )

pub returns-in-Line-clause-writes : goal.returns-in-Line-clause-writes
returns-in-Line-clause-writes g c = λ plain ok.
    let so_far = c.loop-byte.invariant plain in
    put_two g.W.Write.write_str_gives c.args.f.now c.loop-byte.f c.write_str.new.self so_far.0 _ _ so_far.1
    (c.write_str.ensures.writes so_far.1.plain ok)
    (ap (λ (at : BytePlace). so_far.0 ++ text_from at []) (sym c.in-Line.is)
    ∙ text-end _ so_far.0 c.loop-byte.at c.args.self.now.bytes.now c.loop-byte.byte-index c.loop-byte-test.false so_far.2)

pub returns-in_default : goal.returns-in_default
returns-in_default g c = record {
  writes = λ plain ok.
      let so_far = c.loop-byte.invariant plain in
      subst (λ (text : List ℕ). HasWritten g.W.Write.write_str_gives c.args.f.now text c.loop-byte.f)
      (sym (append-nil so_far.0)
      ∙ ap (λ (text : List ℕ). so_far.0 ++ text) (sym (text-none c.loop-byte.at c.in_default.not-Line))
      ∙ text-end _ so_far.0 c.loop-byte.at c.args.self.now.bytes.now c.loop-byte.byte-index c.loop-byte-test.false so_far.2)
      so_far.1;
  styled = tt;
}
