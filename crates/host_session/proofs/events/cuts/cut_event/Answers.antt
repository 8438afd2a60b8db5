-- The openings after a cut message keep the shop that it left.
use Rattle.std.proofs.Common.{◌≡◌, ◌≤◌, ⊎_elim, List, None, arith, refl, subst, sym, ℕ}
use Rattle.std.proofs.lemmas.Option.{none-some}
use Rattle.d64_image.specs.History.{Failed}
use Rattle.host_session.specs.Held.{HeldOnly}
use Rattle.host_session.proofs.lemmas.Held.{then, at_end}
use Rattle.host_session.proofs.lemmas.events.Cuts.{event_failed, event_then}
use Rattle.host_session.proofs.lemmas.events.Quiet.{spared_then}
use Rattle.host_session.proofs.lemmas.runs.RunOpenings.{refused_none}
use Rattle.host_session.proofs.lemmas.shop.Shops.{IsShop-one}
use Rattle.host_session.specs.events.Counted.{after_all}
use Rattle.host_session.specs.events.Events.{cut_at}
use Rattle.host_session.specs.events.OneEvent.{EndsFailed, GoesOn, Leaves}
use Rattle.host_session.specs.events.Quiet.{AsksNothing}
use Rattle.host_session.specs.shop.Shop.{IsSettled, IsShop, Shop, start_of, with_state}
use Rattle.request_cards.specs.declared.reply.Reply.TheVariants.{Cut}
use Rattle.host_session.proofs.events.cuts.cut_event.Goals as goal

-- power goes in it
goes : (bytes : List ℕ) (after : ℕ) → (cut_at bytes after).cut_after ≡ None → ⊥
goes bytes after none = none-some after (sym none)

pub returns-in-Ok-clause-done : goal.returns-in-Ok-clause-done
returns-in-Ok-clause-done g c = λ s settled alive.
    let h = g.D.Sectors.history in
    let x = c.cut_message-cut_disk.ensures.event s settled alive in
    let t : Shop = with_state s (after_all (start_of s) s.state x.counted) in
    let listed = c.cut_openings-disk.ensures.moments t x.ends in
    let there = at_end h _ _ (λ i. IsShop i t) listed in
    let last = c.in-Ok.ensures.moments t there in
    let ok = c.in-Ok.ensures.ok in
    let m = cut_at c.args.message.now c.args.cut.now.after in
    let spared : (u : Shop) → IsSettled (h.image c.args.session.disk) u → AsksNothing u m
    → HeldOnly h c.args.session.disk c.in-Ok.session.disk (λ i. i ≡ h.image c.args.session.disk)
    × (h.writes c.in-Ok.session.disk ≤ h.writes c.args.session.disk) = λ u rests asks.
    spared_then h u _ _ _ _ (c.cut_message-cut_disk.ensures.spared alive u rests asks)
    ((c.cut_message-cut_disk.ensures.event u rests alive).quiet asks) rests (c.cut_openings-disk.ensures.quiet u)
    (c.in-Ok.ensures.quiet u) in (
      ok.3,
      event_then h s m _ _ _ (Leaves h s c.cut_message-cut_disk.result) (GoesOn h s m Cut c.in-Ok.session.disk)
          (goes c.args.message.now c.args.cut.now.after) x (then h _ _ _ (λ i. IsShop i t) listed last.held)
          (subst (λ n. h.failures c.cut_message-cut_disk.result ≤ n) (sym c.in-Ok.ensures.failures)
          (c.cut_openings-disk.ensures.later t x.ends))
          (λ asks. (spared s settled asks).0)
          (record {
            told = refl;
            answered = λ e. absurd (goes c.args.message.now c.args.cut.now.after e);
            settled = subst (IsSettled (h.image c.in-Ok.session.disk)) (IsShop-one _ _ t ok.1 there) ok.2;
          }),
      λ u rests asks. (spared u rests asks).1,
      λ u rests.
          let y = c.cut_message-cut_disk.ensures.event u rests alive in
          let v : Shop = with_state u (after_all (start_of u) u.state y.counted) in
          let there = at_end h _ _ (λ i. IsShop i v) (c.cut_openings-disk.ensures.moments v y.ends) in
          omega (
            arith,
            c.cut_message-cut_disk.ensures.most u rests,
            c.cut_openings-disk.ensures.most v y.ends,
            c.as_slice.ensures.fits,
            (c.in-Ok.ensures.moments v there).writes,
          ),
    )

pub returns-in-Err-clause-stopped : goal.returns-in-Err-clause-stopped
returns-in-Err-clause-stopped g c = λ s settled alive.
    let h = g.D.Sectors.history in
    let x = c.cut_message-cut_disk.ensures.event s settled alive in
    let t : Shop = with_state s (after_all (start_of s) s.state x.counted) in
    let listed = c.cut_openings-disk.ensures.moments t x.ends in
    let there = at_end h _ _ (λ i. IsShop i t) listed in
    let last = c.in-Err.ensures.moments t there in
    let held = then h _ _ _ (λ i. IsShop i t) listed last.held in
    let m = cut_at c.args.message.now c.args.cut.now.after in
    let failed : Failed h c.cut_openings-disk.result c.in-Err.disk =
    ⊎_elim (λ f. f.1) (λ f. absurd (refused_none _ _ t c.in-Err.field-0-0 c.in-Err.ensures.err f.0 there))
    c.in-Err.ensures.failures in
    let spared : (u : Shop) → IsSettled (h.image c.args.session.disk) u → AsksNothing u m
    → HeldOnly h c.args.session.disk c.in-Err.disk (λ i. i ≡ h.image c.args.session.disk)
    × (h.writes c.in-Err.disk ≤ h.writes c.args.session.disk) = λ u rests asks.
    spared_then h u _ _ _ _ (c.cut_message-cut_disk.ensures.spared alive u rests asks)
    ((c.cut_message-cut_disk.ensures.event u rests alive).quiet asks) rests (c.cut_openings-disk.ensures.quiet u)
    (c.in-Err.ensures.quiet u) in (
      event_failed h s m _ _ _ _ (Leaves h s c.cut_message-cut_disk.result) (EndsFailed h s m Cut c.in-Err.disk) x
          held (c.cut_openings-disk.ensures.later t x.ends) failed
          (λ asks. (spared s settled asks).0)
          (record {
            told = refl;
            asked = λ e. absurd (goes c.args.message.now c.args.cut.now.after e);
            is_failed = refl;
            shop = at_end h _ _ (λ i. IsShop i t) held;
          }),
      λ u rests asks. (spared u rests asks).1,
      λ u rests.
          let y = c.cut_message-cut_disk.ensures.event u rests alive in
          let v : Shop = with_state u (after_all (start_of u) u.state y.counted) in
          let there = at_end h _ _ (λ i. IsShop i v) (c.cut_openings-disk.ensures.moments v y.ends) in
          omega (
            arith,
            c.cut_message-cut_disk.ensures.most u rests,
            c.cut_openings-disk.ensures.most v y.ends,
            c.as_slice.ensures.fits,
            (c.in-Err.ensures.moments v there).writes,
          ),
    )
