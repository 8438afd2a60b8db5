-- Nothing was touched; or the blocks were made, written behind the others and synced.
use Rattle.std.proofs.Common.{◌∙◌, ◌*◌, List, ℕ, ap, length, refl, take}
use Rattle.std.specs.List.{flat_map}
use Rattle.std.proofs.lemmas.List.{with_items_is}
use Rattle.one_host.specs.History.{Until}
use Rattle.one_host.proofs.Moments.{start}
use Rattle.kept_logs.specs.Logs.{Commits}
use Rattle.kept_logs.proofs.Commits.{append_moments, append_since, quiet_committed, stays}
use Rattle.kept_logs.proofs.logs.KeptLog.commit.Goals as goal

pub returns-then-none_touched-clause-any_moment : goal.returns-then-none_touched-clause-any_moment
returns-then-none_touched-clause-any_moment g c known n base before since =
    let S = g.H.Host.history in
    let v = S.world c.args.host.now in
    start S c.args.host.now (Until n (Commits v c.args.self base before c.args.now.now))
    (λ e. stays c.args.self base before c.args.now.now v (since.is e).stands)

pub returns-then-none_touched-clause-ok : goal.returns-then-none_touched-clause-ok
returns-then-none_touched-clause-ok g c known n base before since = record {
  count = since.count;
  is = λ e. quiet_committed c.args.self base before c.args.now.now c.args.touched.now c.requires.sized (c.none_touched.ensures.none c.if-none_touched.true)
      (since.is e).covers (g.H.Host.history.world c.args.host.now) (since.is e).stands;
}

pub returns-in_err-append-clause-any_moment : goal.returns-in_err-append-clause-any_moment
returns-in_err-append-clause-any_moment g c known n base before since =
    let made = c.fill-n.ensures in
    let room = c.fill-n.new.room in
    let is = c.deref.ensures.value ∙ with_items_is c.args.self.room room (c.fill-n.auto.room ∙ c.deref_mut.ensures.len) in
    append_moments room c.fill-n.result c.args.self.end made.commit made.few made.room made.wide c.requires.room c.as_flattened.result.now
    (c.as_flattened.ensures.value ∙ ap (λ (r : List (List ℕ)). flat_map (λ b. b) (take c.fill-n.result r)) is)
    (c.as_flattened.ensures.len ∙ ap (λ (r : List (List ℕ)). length (take c.fill-n.result r) * 4096) is)
    c.args.touched.now c.args.now.now c.requires.sized made.brought c.args.self refl base before g.H.Host.history c.args.host.now c.append.new.host n since
    (c.append.ensures.any_moment known n)

pub returns-clause-any_moment : goal.returns-clause-any_moment
returns-clause-any_moment g c known n base before since =
    let made = c.fill-n.ensures in
    let room = c.fill-n.new.room in
    let is = c.deref.ensures.value ∙ with_items_is c.args.self.room room (c.fill-n.auto.room ∙ c.deref_mut.ensures.len) in
    append_moments room c.fill-n.result c.args.self.end made.commit made.few made.room made.wide c.requires.room c.as_flattened.result.now
    (c.as_flattened.ensures.value ∙ ap (λ (r : List (List ℕ)). flat_map (λ b. b) (take c.fill-n.result r)) is)
    (c.as_flattened.ensures.len ∙ ap (λ (r : List (List ℕ)). length (take c.fill-n.result r) * 4096) is)
    c.args.touched.now c.args.now.now c.requires.sized made.brought c.args.self refl base before g.H.Host.history c.args.host.now c.append.new.host n since
    (c.append.ensures.any_moment known n)

pub returns-clause-ok : goal.returns-clause-ok
returns-clause-ok g c known n base before since =
    let made = c.fill-n.ensures in
    let room = c.fill-n.new.room in
    let is = c.deref.ensures.value ∙ with_items_is c.args.self.room room (c.fill-n.auto.room ∙ c.deref_mut.ensures.len) in
    append_since room c.fill-n.result c.args.self.end made.commit made.few made.room made.wide c.requires.room c.as_flattened.result.now
    (c.as_flattened.ensures.value ∙ ap (λ (r : List (List ℕ)). flat_map (λ b. b) (take c.fill-n.result r)) is)
    (c.as_flattened.ensures.len ∙ ap (λ (r : List (List ℕ)). length (take c.fill-n.result r) * 4096) is)
    c.args.touched.now c.args.now.now c.requires.sized made.brought c.args.self refl base before g.H.Host.history c.args.host.now c.append.new.host n since
    (c.in_ok-append.ensures.ok known n) _ refl refl
