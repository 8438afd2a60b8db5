-- A file that isn't relative is copied with its bytes, or without a block.
use Rattle.std.proofs.Common.{inl, inr}
use Rattle.std.proofs.lemmas.Result.{IfErr-weaker, IfOk-weaker}
use Rattle.disk_changes.proofs.copying.plain_copy.Goals as goal

pub returns-then-names_no_block-clause-ok : goal.returns-then-names_no_block-clause-ok
returns-then-names_no_block-clause-ok c = IfOk-weaker c.empty_copy.result _ _
    (λ made is. inl (c.names_no_block.ensures.0 c.if-names_no_block.true, is)) c.empty_copy.ensures.ok

pub returns-then-names_no_block-clause-err : goal.returns-then-names_no_block-clause-err
returns-then-names_no_block-clause-err c = IfErr-weaker c.empty_copy.result _ _
    (λ why no. inl (c.names_no_block.ensures.0 c.if-names_no_block.true, no)) c.empty_copy.ensures.err

pub returns-clause-ok : goal.returns-clause-ok
returns-clause-ok c = IfOk-weaker c.copy_of.result _ _
    (λ made is. inr (λ none. absurd (cc (c.names_no_block.ensures.1 none, c.if-names_no_block.false)), is)) c.copy_of.ensures.ok

pub returns-clause-err : goal.returns-clause-err
returns-clause-err c = IfErr-weaker c.copy_of.result _ _
    (λ why no. inr (λ none. absurd (cc (c.names_no_block.ensures.1 none, c.if-names_no_block.false)), no)) c.copy_of.ensures.err
