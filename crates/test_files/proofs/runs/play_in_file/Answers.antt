-- What a durable run says of any file, of one of which it is known what it holds at each moment.
use Rattle.std.proofs.Common.{◌≡◌, ◌∙◌, List, Some, ap, arith, inl, length, refl, subst, sym, ℕ}
use Rattle.std.specs.Prelude.{OnOk}
use Rattle.std.proofs.lemmas.Result.{on_ok_weaker}
use Rattle.std.proofs.Math.Seq.{take_all}
use Rattle.d64_image.specs.Memory.{sectors_in}
use Rattle.host_session.specs.events.Events.{messages_of, requests_of}
use Rattle.host_session.specs.shop.Shop.{IsSettled, IsShop, Shop, start_of, with_state}
use Rattle.request_cards.specs.Ledgers.{plain}
use Rattle.line_text.specs.scripts.Lines.{lines}
use Rattle.opened_files.specs.Ends.{JobEnd}
use Rattle.test_files.specs.Shops.{IsAfterSome}
use Rattle.test_files.specs.WholeFiles.{whole_held}
use Rattle.test_files.specs.WholeShops.{WereHeld}
use Rattle.shop_jobs.proofs.Durably.{all_there}
use Rattle.test_files.proofs.Ends.{held_sized, known_in}
use Rattle.shop_jobs.proofs.Lasts.{on_ok_by, lasts_done, lasts_each, play_failed}
use Rattle.test_files.proofs.runs.play_in_file.Goals as goal

pub play_durably-requires : goal.play_durably-requires
play_durably-requires g c = record {
  image = c.requires.image ∙ sym (take_all 174849 (whole_held c.args.file) (omega (arith, c.args.file.file.held.size)));
}

pub returns : goal.returns
returns g c =
    let o = g.T.Replies.output in
    let image = c.args.image.now in
    let script = c.args.script.now in
    let file = c.args.file in
    let after = c.play_durably.result.0 in
    let ended = c.play_durably.result.1 in
    let out = c.args.out.now in
    let new_out = c.play_durably.new.out in
    let size : length image ≡ 174848 = ap length c.requires.image ∙ file.file.held.size in
    let known : Some (whole_held file) ≡ Some image = ap Some (sym c.requires.image) in
    let run = c.play_durably.ensures.run in
    let shop : (s : Shop) → IsShop (sectors_in (whole_held file)) s → IsShop (sectors_in image) s =
    λ s is. subst (λ (bytes : List ℕ). IsShop (sectors_in bytes) s) (sym c.requires.image) is in
    let each : (s : Shop) → IsShop (sectors_in (whole_held file)) s → (all : List ℕ) → WereHeld file after all
    → IsAfterSome s (messages_of (lines script)) all =
    λ s is all were.
    let sized : length all ≡ 174848 = held_sized after _ all were in (
      sized,
      lasts_each o image script file after ended out new_out size known run s (shop s is) all sized
          were,
    ) in
    record {
      done = on_ok_by ended _ (λ v e.
          let there : Some after.file.disk.bytes.items ≡ Some (whole_held after) = subst
          (λ (end : JobEnd). OnOk end (Some after.file.disk.bytes.items ≡ Some (whole_held after))) e (all_there run) in
          record {
            told = λ s is none. (lasts_done o image script file after ended out new_out size known
                run s (shop s is) v e (whole_held after) refl after.file.held.size none).0;
            there = λ s is none. subst
                (λ (bytes : List ℕ). IsSettled (sectors_in bytes)
                (with_state s (plain (start_of s) (requests_of (lines script)))))
                (ap known_in (sym there))
                (lasts_done o image script file after ended out new_out size known run s (shop s is)
                v e (whole_held after) refl after.file.held.size none).1;
          });
      held = on_ok_weaker ended (λ same. ap known_in same) (all_there run);
      stays = record { each = each; now = λ s is. each s is (whole_held after) (inl refl) };
      device = play_failed o image script file after ended out new_out size known run;
    }
