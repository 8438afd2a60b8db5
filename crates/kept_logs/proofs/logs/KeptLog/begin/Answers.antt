-- Zeros, and then the image as the first commit.
use Rattle.std.proofs.Common.{◌∙◌, ◌*◌, List, ℕ, ap, arith, length, refl, take}
use Rattle.std.specs.List.{flat_map}
use Rattle.std.proofs.lemmas.List.{with_items_is}
use Rattle.kept_logs.specs.declared.logs.KeptLog.{KeptLog}
use Rattle.kept_logs.proofs.Begun.{begin_held, begun, begun_in, taken, takes}
use Rattle.kept_logs.proofs.logs.KeptLog.begin.Goals as goal

pub returns-in_err-append-clause-any_moment : goal.returns-in_err-append-clause-any_moment
returns-in_err-append-clause-any_moment g c known k since =
    let S = g.H.Host.history in
    let h0 = c.args.host.now in
    let h1 = c.lay_out.new.host in
    let h2 = c.append.new.host in
    let made = c.fill-n.ensures in
    let room = c.fill-n.new.room in
    let is = c.deref.ensures.value ∙ with_items_is c.args.room.blocks room (c.fill-n.auto.room ∙ c.deref_mut.ensures.len) in
    let bytes = c.as_flattened.result.now in
    let m : KeptLog = record { file = c.args.file; end = c.fill-n.result; room = c.args.room.blocks; ends = omega (arith, made.few); rooms = c.args.room.fits } in
    let joined_are = c.as_flattened.ensures.value ∙ ap (λ (r : List (List ℕ)). flat_map (λ b. b) (take c.fill-n.result r)) is in
    let long = c.as_flattened.ensures.len ∙ ap (λ (r : List (List ℕ)). length (take c.fill-n.result r) * 4096) is in
    let laid = c.in_ok-lay_out.ensures.ok known k since in
    begin_held S h0 h1 h2 k c.args.file.number bytes laid (c.lay_out.ensures.any_moment known k since)
    (c.append.ensures.any_moment known k (taken S h0 h1 h2 k c.args.file.number bytes laid (λ u l. takes room c.fill-n.result made.commit made.few made.room made.wide bytes joined_are long c.args.image.now c.requires.sized made.brought m refl (S.world h0) u l)))

pub returns-clause-any_moment : goal.returns-clause-any_moment
returns-clause-any_moment g c known k since =
    let S = g.H.Host.history in
    let h0 = c.args.host.now in
    let h1 = c.lay_out.new.host in
    let h2 = c.append.new.host in
    let made = c.fill-n.ensures in
    let room = c.fill-n.new.room in
    let is = c.deref.ensures.value ∙ with_items_is c.args.room.blocks room (c.fill-n.auto.room ∙ c.deref_mut.ensures.len) in
    let bytes = c.as_flattened.result.now in
    let m : KeptLog = record { file = c.args.file; end = c.fill-n.result; room = c.args.room.blocks; ends = omega (arith, made.few); rooms = c.args.room.fits } in
    let joined_are = c.as_flattened.ensures.value ∙ ap (λ (r : List (List ℕ)). flat_map (λ b. b) (take c.fill-n.result r)) is in
    let long = c.as_flattened.ensures.len ∙ ap (λ (r : List (List ℕ)). length (take c.fill-n.result r) * 4096) is in
    let laid = c.in_ok-lay_out.ensures.ok known k since in
    begin_held S h0 h1 h2 k c.args.file.number bytes laid (c.lay_out.ensures.any_moment known k since)
    (c.append.ensures.any_moment known k (taken S h0 h1 h2 k c.args.file.number bytes laid (λ u l. takes room c.fill-n.result made.commit made.few made.room made.wide bytes joined_are long c.args.image.now c.requires.sized made.brought m refl (S.world h0) u l)))

pub returns-clause-ok : goal.returns-clause-ok
returns-clause-ok g c known k since =
    let S = g.H.Host.history in
    let h0 = c.args.host.now in
    let h1 = c.lay_out.new.host in
    let h2 = c.append.new.host in
    let made = c.fill-n.ensures in
    let room = c.fill-n.new.room in
    let is = c.deref.ensures.value ∙ with_items_is c.args.room.blocks room (c.fill-n.auto.room ∙ c.deref_mut.ensures.len) in
    let bytes = c.as_flattened.result.now in
    let m : KeptLog = record { file = c.args.file; end = c.fill-n.result; room = c.args.room.blocks; ends = omega (arith, made.few); rooms = c.args.room.fits } in
    let joined_are = c.as_flattened.ensures.value ∙ ap (λ (r : List (List ℕ)). flat_map (λ b. b) (take c.fill-n.result r)) is in
    let long = c.as_flattened.ensures.len ∙ ap (λ (r : List (List ℕ)). length (take c.fill-n.result r) * 4096) is in
    let laid = c.in_ok-lay_out.ensures.ok known k since in
    begun S h0 h1 h2 k c.args.file.number bytes laid
    (λ u l w has. begun_in room c.fill-n.result made.commit made.few made.room made.wide bytes joined_are long c.args.image.now c.requires.sized made.brought _ refl (S.world h0) u l w has)
    (c.in_ok-append.ensures.ok known k (taken S h0 h1 h2 k c.args.file.number bytes laid (λ u l. takes room c.fill-n.result made.commit made.few made.room made.wide bytes joined_are long c.args.image.now c.requires.sized made.brought m refl (S.world h0) u l)))
