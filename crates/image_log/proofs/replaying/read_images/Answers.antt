-- The blocks are read once, and counted.
use Rattle.std.proofs.Common.{◌≡◌, ◌∙◌, ℕ, ap, arith, subst, sym}
use Rattle.std.proofs.lemmas.Bool.{false≢true}
use Rattle.image_log.specs.Blocks.{block_at, committed, first_commit, replayed}
use Rattle.image_log.specs.Recovered.{EndsTorn, base_end, blank, commits_end}
use Rattle.image_log.proofs.replaying.read_images.Goals as goal

pub returns-then-first-eq0-clause-refused : goal.returns-then-first-eq0-clause-refused
returns-then-first-eq0-clause-refused g c misfit f is base shop read =
    let known = c.in_ok-blocks.ensures.known f (c.is_sized.ensures.reads.same ∙ is) (omega (arith, read.size)) in
    let first : c.count_first-first.result ≡ base_end f =
    c.count_first-first.ensures.first f known ∙ ap (first_commit (block_at f)) (c.count_whole-whole.ensures.whole f known) in
    omega (arith, first, read.based, c.if-first-eq0.true)

pub returns-then-not-ends_torn-clause-refused : goal.returns-then-not-ends_torn-clause-refused
returns-then-not-ends_torn-clause-refused g c misfit f is base shop read =
    let known = c.in_ok-blocks.ensures.known f (c.is_sized.ensures.reads.same ∙ is) (omega (arith, read.size)) in
    let end : c.count_committed-end.result ≡ commits_end f =
    c.count_committed-end.ensures.committed f known ∙ ap (committed (block_at f)) (c.count_whole-whole.ensures.whole f known) in
    false≢true (sym c.if-not-ends_torn.true ∙ (c.ends_torn.ensures f known).1 (subst (EndsTorn f) (sym end) read.ends))

pub returns-clause-ok : goal.returns-clause-ok
returns-clause-ok g c f is =
    let size = (c.in_ok-is_sized.ensures.sized f is).0 c.if-not-branch.false in
    let at = c.is_sized.ensures.reads.same ∙ is in
    let known = c.in_ok-blocks.ensures.known f at (omega (arith, size)) in
    let whole = c.count_whole-whole.ensures.whole f known in
    let first : c.count_first-first.result ≡ base_end f =
    c.count_first-first.ensures.first f known ∙ ap (first_commit (block_at f)) whole in
    let end : c.count_committed-end.result ≡ commits_end f =
    c.count_committed-end.ensures.committed f known ∙ ap (committed (block_at f)) whole in
    let then = c.read_blocks.ensures.same ∙ at in
    record {
      size = size;
      based = omega (arith, first, c.if-first-eq0.false);
      base = c.in_ok-replay.ensures.ok f then (omega (arith, size)) ∙ ap (λ (n : ℕ). replayed (block_at f) blank n) first;
      shop = c.in_ok-replay-2.ensures.ok f (c.replay.ensures.same ∙ then) (omega (arith, size))
          ∙ ap (λ (n : ℕ). replayed (block_at f) blank n) end;
      ends = subst (EndsTorn f) end ((c.ends_torn.ensures f known).0 c.if-not-ends_torn.false);
    }
