-- The blocks are read once, and counted.
use Rattle.std.proofs.Common.{◌≡◌, ◌∙◌, ℕ, ap, arith, inl, inr}
use Rattle.std.proofs.lemmas.Bool.{cases_lt}
use Rattle.image_log.specs.Blocks.{block_at, committed, replayed}
use Rattle.image_log.specs.Recovered.{base_end, blank, commits_end, whole_blocks}
use Rattle.image_log.specs.Salvage.{commits_in}
use Rattle.image_log.proofs.Runs.{none_committed, some_committed}
use Rattle.image_log.proofs.salvaging.salvage.Goals as goal

pub returns-then-end-eq0-clause-refused : goal.returns-then-end-eq0-clause-refused
returns-then-end-eq0-clause-refused g c misfit f is long =
    let known = c.in_ok-blocks.ensures.known f is long in
    let end : c.count_committed-end.result ≡ commits_end f =
    c.count_committed-end.ensures.committed f known ∙ ap (committed (block_at f)) (c.count_whole-whole.ensures.whole f known) in
    elim (cases_lt 0 (base_end f)) [
      | inl some ↦ absurd (omega (arith, end, c.if-end-eq0.true, some_committed (block_at f) (whole_blocks f) some))
      | inr none ↦ omega (arith, none)
    ]

pub returns-clause-ok : goal.returns-clause-ok
returns-clause-ok g c f is long =
    let known = c.in_ok-blocks.ensures.known f is long in
    let end : c.count_committed-end.result ≡ commits_end f =
    c.count_committed-end.ensures.committed f known ∙ ap (committed (block_at f)) (c.count_whole-whole.ensures.whole f known) in
    let w = c.count_written.ensures in
    record {
      based = elim (cases_lt 0 (base_end f)) [
        | inl some ↦ some
        | inr none ↦ absurd (omega (arith, end, c.if-end-eq0.false, none_committed (block_at f) (whole_blocks f) (omega (arith, none))))
      ];
      image = c.in_ok-replay.ensures.ok f (c.read_blocks.ensures.same ∙ is) long ∙ ap (λ (n : ℕ). replayed (block_at f) blank n) end;
      commits = c.count_commits.ensures.commits f known ∙ ap (commits_in (block_at f)) end;
      after = λ q past low. w.blank f known q (omega (arith, past, end, w.from)) low;
      last = λ q from at. w.last f known q (omega (arith, from, end)) (omega (arith, at, end, w.from));
    }
