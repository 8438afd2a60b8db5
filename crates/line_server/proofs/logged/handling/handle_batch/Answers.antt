-- Line by line.
use Rattle.std.proofs.Common.{◌≡◌, ◌∙◌, ◌+◌, ◌++◌, ◌∷◌, [], ℕ, List, ap, arith, length, subst, sym, take}
use Rattle.std.proofs.lemmas.List.{length_push, map-append, take_more}
use Rattle.arrayvec.specs.ArrayVec.{ArrayVec}
use Rattle.line_server.specs.Batches.{texts_of}
use Rattle.line_server.specs.logged.Handling.{AreHandled}
use Rattle.line_server.proofs.lemmas.logged.Handled.{one_more}
use Rattle.line_server.proofs.logged.handling.handle_batch.Goals as goal

pub loop-line-preserved : goal.loop-line-preserved
loop-line-preserved c =
    let i = c.loop-line.line-index in
    let lines = c.args.lines.now in
    let line = c.line-item.result in
    let more : texts_of (take (i + 1) lines) ≡ texts_of (take i lines) ++ c.as_slice.result.now ∷ [] =
    ap texts_of (take_more lines i line c.loop-line-test.true ∙ ap (λ (l : ArrayVec ℕ). take i lines ++ l ∷ []) (sym c.line-item.is))
    ∙ map-append (λ (l : ArrayVec ℕ). l.items) (take i lines) (line ∷ [])
    ∙ ap (λ (l : List ℕ). texts_of (take i lines) ++ l ∷ []) (sym c.as_slice.ensures.value) in (
      subst (λ ls. AreHandled c.args.session.now c.handle_line-reply.new.session ls c.push_reserved.new.self.items) (sym more)
          (subst (AreHandled c.args.session.now c.handle_line-reply.new.session (texts_of (take i lines) ++ c.as_slice.result.now ∷ []))
          (sym c.push_reserved.ensures.items)
          (one_more c.args.session.now c.loop-line.session c.handle_line-reply.new.session (texts_of (take i lines))
          c.as_slice.result.now c.loop-line.replies.items c.handle_line-reply.result c.loop-line.invariant.0 c.handle_line-reply.ensures)),
      ap length c.push_reserved.ensures.items ∙ length_push c.loop-line.replies.items c.handle_line-reply.result
          ∙ ap (λ n. n + 1) c.loop-line.invariant.1,
      omega (arith, c.loop-line.invariant.2, c.push_reserved.ensures.capacity),
    )
