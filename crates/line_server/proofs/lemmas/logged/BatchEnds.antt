-- How a batch goes on or ends.
use Rattle.std.proofs.Common.{◌≡◌, ◌<◌, ◌≤◌, ◌+◌, ◌∙◌, ℕ, List, [], ◌++◌, Err, None, Ok, Result, ap, append-nil, append_assoc}
use Rattle.std.proofs.Common.{arith, inl, inr, length, subst, sym, true, ⊎_elim}
use Rattle.std.specs.Prelude.{option_to_list}
use Rattle.std.proofs.lemmas.List.{length-append, length-map, map-append}
use Rattle.d64_image.specs.Images.{Image}
use Rattle.d64_image.specs.Memory.{disk_image}
use Rattle.d64_image.specs.declared.mem_disk.MemDisk.{MemDisk}
use Rattle.request_cards.specs.Ledgers.{replies}
use Rattle.request_cards.specs.declared.reply.Reply.{Reply}
use Rattle.request_cards.specs.Reading.{request_of}
use Rattle.line_text.specs.scripts.Lines.{lines}
use Rattle.host_session.specs.declared.events.sources.Next.{Next}
use Rattle.host_session.specs.declared.runs.event_loop.LoopFault.{LoopFault}
use Rattle.host_session.specs.declared.runs.event_loop.LoopFault.TheVariants as faults
use Rattle.host_session.specs.runs.Chains.{told_in}
use Rattle.host_session.specs.session.Standing.{View}
use Rattle.host_session.specs.shop.Shop.{IsSettled, IsShop, Shop, start_of}
use Rattle.line_server.proofs.Cuts.{lines_two}
use Rattle.arrayvec.specs.ArrayVec.{ArrayVec}
use Rattle.line_server.specs.Batches.{BatchInput, IsBatchTaken, texts_of}
use Rattle.image_log.specs.ImageLogs.{LogHistory}
use Rattle.line_server.specs.logged.Batches.{Holds, IsBatchServed, IsKeptNow, IsServedSo, IsUnderWay}
use Rattle.line_server.specs.logged.Memory.{Memory}
use Rattle.line_server.specs.logged.Reporting.{IsCutShort, LogOutput, ReportsPart, ReportsWhole, over_log}
use Rattle.line_server.specs.logged.Handling.{IsAtRest}
use Rattle.line_server.specs.logged.Serves.{IsSafe, StayFrom, shop_behind}
use Rattle.line_server.proofs.lemmas.logged.Staying.{as_many_over, stay_first, told_over}
use Rattle.line_server.proofs.lemmas.logged.UnderWay as way

module _ {L R T : Type 0} (h : LogHistory L) (i : BatchInput R) (o : LogOutput L T) (disk : MemDisk) (old : L)
    (old_in : R) (old_out : T) (session : View Memory) (kept : Image) (log : L) (input : R) (out : T)
    (u : IsUnderWay h i o disk old old_in old_out [] session kept log input out)
    (new_in : R) (texts : List (List ℕ)) (said : Next)
    (b : IsBatchTaken (i.remaining input) (i.remaining new_in) texts said)
    (after : View Memory) (new_kept : Image) (now : L) (told : T) (result : Result Unit LoopFault)
    (x : IsBatchServed h o texts session after kept new_kept log now out told result) where
  abbrev All : List ℕ
  All = u.handled ++ b.handled

  abbrev New : List (Reply × L)
  New = over_log now x.replies

  -- the batch was committed and told
  module _ (committed : IsKeptNow h after.disk kept new_kept log now) where
    holds_now : (s : Shop) → IsShop (disk_image disk) s
        → Holds h s (disk_image disk) (lines All) (u.turns ++ New) old now after
    holds_now s shop = record {
      rests = subst (λ ls. IsAtRest after (shop_behind s ls))
          (sym (way.lines_are h i o disk old old_in old_out session kept log input out u new_in texts said b after new_kept now told result x))
          (way.rests_now h i o disk old old_in old_out session kept log input out u new_in texts said b after new_kept now told result x s shop);
      replies_are = map-append (λ t. t.0) u.turns New ∙ ap (λ rs. told_in u.turns ++ rs) (told_over now x.replies)
          ∙ way.told_are h i o disk old old_in old_out session kept log input out u new_in texts said b after new_kept now told result x s shop;
      stands = λ stood. way.stands_now h i o disk old old_in old_out session kept log input out u new_in texts said b after new_kept now told result x s shop stood committed;
      safe = λ stood. way.safe_told h i o disk old old_in old_out session kept log input out u new_in texts said b after new_kept now told result x s shop stood committed;
      files = way.files_now h i o disk old old_in old_out session kept log input out u new_in texts said b after new_kept now told result x s shop;
    }

    pub goes_on : ReportsWhole o out told New
        → IsUnderWay h i o disk old old_in old_out b.rest after new_kept now new_in told
    goes_on reported = record {
      handled = All;
      whole = way.all_whole h i o disk old old_in old_out session kept log input out u new_in texts said b after new_kept now told result x;
      lacks = b.lacks;
      read = way.all_read h i o disk old old_in old_out session kept log input out u new_in texts said b after new_kept now told result x;
      turns = u.turns ++ New;
      told = reported.0 old_out u.turns u.told;
      handed = ⊎_elim
          (λ none. ⊎_elim
          (λ empty. inl (ap (λ ts. u.turns ++ ts) none.0 ∙ append-nil u.turns ∙ empty))
          (λ on. inr (subst o.is_handed_on (sym none.1) on))
          u.handed)
          (λ on. inr on)
          reported.1;
      kept_is = (committed (way.covers_now h i o disk old old_in old_out session kept log input out u new_in texts said b after new_kept now told result x u.shop.0 u.shop.1)).0;
      shop = u.shop;
      holds = holds_now;
      quiet = way.quiet_now h i o disk old old_in old_out session kept log input out u new_in texts said b after new_kept now told result x;
    }

    cut_first : (s : Shop) → IsShop (disk_image disk) s → (k : IsCutShort o old_out told u.turns New)
        → (told_in ((u.turns ++ k.whole) ++ option_to_list k.last) ++ told_in k.rest ≡ replies (start_of s) [] (lines All))
    cut_first s shop k =
        sym (map-append (λ t. t.0) ((u.turns ++ k.whole) ++ option_to_list k.last) k.rest)
        ∙ ap told_in (append_assoc (u.turns ++ k.whole) (option_to_list k.last) k.rest
        ∙ append_assoc u.turns k.whole (option_to_list k.last ++ k.rest)
        ∙ ap (λ ts. u.turns ++ ts) k.parts)
        ∙ (holds_now s shop).replies_are

    pub output_failed : ReportsPart o out told New
        → IsServedSo h i o disk old now old_in new_in old_out told after (Err faults.Output)
    output_failed reported left is =
        let k = reported.0 old_out u.turns u.told in
        record {
          handled = All;
          rest = b.rest;
          whole = way.all_whole h i o disk old old_in old_out session kept log input out u new_in texts said b after new_kept now told result x;
          lacks = b.lacks;
          read = way.all_read h i o disk old old_in old_out session kept log input out u new_in texts said b after new_kept now told result x;
          turns = u.turns ++ k.whole;
          last = k.last;
          told = k.told;
          replies_are = λ s shop. (
            told_in k.rest,
            cut_first s shop k,
            omega (
              arith,
              length-map k.rest (λ t. t.0),
              ap length k.parts,
              length-append k.whole (option_to_list k.last ++ k.rest),
              length-append (option_to_list k.last) k.rest,
              as_many_over now x.replies,
              way.not_many h i o disk old old_in old_out session kept log input out u new_in texts said b after new_kept now told result x s shop,
            ),
          );
          safe = λ s shop stood.
              let all = (holds_now s shop).safe stood in
              record {
                any_moment = all.any_moment;
                files = all.files;
                told_stays = stay_first h s (lines All) now 0 ((u.turns ++ k.whole) ++ option_to_list k.last) k.rest
                    (subst (λ (ts : List (Reply × L)). StayFrom h s (lines All) 0 ts now)
                    (sym (append_assoc (u.turns ++ k.whole) (option_to_list k.last) k.rest
                    ∙ append_assoc u.turns k.whole (option_to_list k.last ++ k.rest)
                    ∙ ap (λ ts. u.turns ++ ts) k.parts)) all.told_stays);
              };
          all = λ e. cc;
          handed = λ e. cc;
          rests = λ s shop why. (
            subst (λ (image : Image). IsSettled image (shop_behind s (lines All))) (sym is) (holds_now s shop).rests.rests,
            λ stood. subst (h.stands_for now) (sym is) ((holds_now s shop).stands stood),
          );
          files = λ whole. tt;
          shop = tt;
          end = tt;
          quiet = λ s settled none. (way.quiet_now h i o disk old old_in old_out session kept log input out u new_in texts said b after new_kept now told result x s settled none).0;
          «open» = λ f e. cc;
          input = λ e. cc;
          device = λ e. cc;
          output = λ e. reported.1;
        }

  -- the log takes no more commits
  pub device_failed : (told ≡ out) × (h.is_over now ≡ true)
      → IsServedSo h i o disk old now old_in new_in old_out told after (Err faults.Device)
  device_failed ends left is = record {
    handled = All;
    rest = b.rest;
    whole = way.all_whole h i o disk old old_in old_out session kept log input out u new_in texts said b after new_kept now told result x;
    lacks = b.lacks;
    read = way.all_read h i o disk old old_in old_out session kept log input out u new_in texts said b after new_kept now told result x;
    turns = u.turns;
    last = None;
    told = subst (λ (t : T). o.told old_out t u.turns) (sym ends.0) u.told;
    replies_are = λ s shop. (
      x.replies,
      ap (λ ts. told_in ts ++ x.replies) (append-nil u.turns)
          ∙ way.told_are h i o disk old old_in old_out session kept log input out u new_in texts said b after new_kept now told result x s shop,
      way.not_many h i o disk old old_in old_out session kept log input out u new_in texts said b after new_kept now told result x s shop,
    );
    safe = λ s shop stood. subst (λ (ts : List (Reply × L)). IsSafe h s (disk_image disk) (lines All) ts old now)
        (sym (append-nil u.turns))
        (way.safe_untold h i o disk old old_in old_out session kept log input out u new_in texts said b after new_kept now told result x s shop stood);
    all = λ e. cc;
    handed = λ e. cc;
    rests = λ s shop why. elim why [ inl e ↦ cc | inr e ↦ cc ];
    files = λ whole. tt;
    shop = tt;
    end = tt;
    quiet = λ s settled none. (way.quiet_now h i o disk old old_in old_out session kept log input out u new_in texts said b after new_kept now told result x s settled none).0;
    «open» = λ f e. cc;
    input = λ e. cc;
    device = λ e. ends.1;
    output = λ e. cc;
  }

module _ {L R T : Type 0} (h : LogHistory L) (i : BatchInput R) (o : LogOutput L T) (disk : MemDisk) (old : L)
    (old_in : R) (old_out : T) (session : View Memory) (kept : Image) (log : L) (input : R) (out : T)
    (u : IsUnderWay h i o disk old old_in old_out [] session kept log input out)
    (new_in : R) (texts : List (List ℕ)) (said : Next)
    (b : IsBatchTaken (i.remaining input) (i.remaining new_in) texts said)
    (after : View Memory) (new_kept : Image) (now : L) (told : T) where
  -- a batch that ends it
  pub ends_by : (fault : LoopFault)
      → IsBatchServed h o texts session after kept new_kept log now out told (Err fault)
      → IsServedSo h i o disk old now old_in new_in old_out told after (Err fault)
  ends_by faults.Output x = output_failed h i o disk old old_in old_out session kept log input out u new_in texts said b
      after new_kept now told (Err faults.Output) x x.ends.0 x.ends.1
  ends_by faults.Device x = device_failed h i o disk old old_in old_out session kept log input out u new_in texts said b
      after new_kept now told (Err faults.Device) x x.ends
  ends_by faults.Input x = absurd x.ends
  ends_by (faults.Open f) x = absurd x.ends

  -- one that goes on: with each there is a line more
  pub goes_on_by : (n : ℕ) → n ≤ length (lines u.handled)
      → IsBatchServed h o texts session after kept new_kept log now out told (Ok tt)
      → (x : IsUnderWay h i o disk old old_in old_out b.rest after new_kept now new_in told)
      × (length (lines x.handled) ≡ length (lines u.handled) + length texts)
  unfolding goes_on
  goes_on_by n le x = (
    goes_on h i o disk old old_in old_out session kept log input out u new_in texts said b after new_kept now told (Ok tt)
        x x.ends.0 x.ends.1,
    ap length (lines_two u.handled b.handled u.whole) ∙ length-append (lines u.handled) (lines b.handled)
        ∙ ap (λ k. length (lines u.handled) + k)
        (sym (length-map (lines b.handled) request_of) ∙ ap length (sym b.same) ∙ length-map texts request_of),
  )

  -- so where it goes on, and the image is put back in its room
  pub next_by : (n : ℕ) → n ≤ length (lines u.handled)
      → IsBatchServed h o texts session after kept new_kept log now out told (Ok tt)
      → b.rest ≡ [] → 0 < length texts → (back : Image) → back ≡ new_kept
      → (x : IsUnderWay h i o disk old old_in old_out [] after back now new_in told) × (n + 1 ≤ length (lines x.handled))
  next_by n le x none some back is =
      let y = goes_on_by n le x in
      subst (λ (k : Image). (z : IsUnderWay h i o disk old old_in old_out [] after k now new_in told)
      × (n + 1 ≤ length (lines z.handled))) (sym is)
      (subst (λ (r : List ℕ). (z : IsUnderWay h i o disk old old_in old_out r after new_kept now new_in told)
      × (n + 1 ≤ length (lines z.handled))) none
      (y.0, omega (arith, y.1, le, some)))

-- the same batch, of the same lines behind the same image
pub as_batch : {L T : Type 0} (h : LogHistory L) (o : LogOutput L T) (ls texts : List (ArrayVec ℕ))
    (session after : View Memory) (first kept new_kept : Image) (log now : L) (out told : T)
    (result : Result Unit LoopFault) → ls ≡ texts → first ≡ kept
    → IsBatchServed h o (texts_of ls) session after first new_kept log now out told result
    → IsBatchServed h o (texts_of texts) session after kept new_kept log now out told result
as_batch h o ls texts session after first kept new_kept log now out told result same is x =
    subst (λ (k : Image). IsBatchServed h o (texts_of texts) session after k new_kept log now out told result) is
    (subst (λ (t : List (ArrayVec ℕ)). IsBatchServed h o (texts_of t) session after first new_kept log now out told result)
    same x)
