-- How serving over a log begins, goes on and ends.
use Rattle.std.proofs.Common.{◌≡◌, ◌⊎◌, ◌≤◌, ◌∙◌, ℕ, List, [], ◌++◌, Err, None, Ok, ap, append-nil}
use Rattle.std.proofs.Common.{arith, inl, inr, length, refl, subst, sym, true, ⊎_elim}
use Rattle.std.specs.Prelude.{OnSome, option_to_list}
use Rattle.std.proofs.KnownBytes.{Consumes-nil}
use Rattle.std.specs.Io.KnownBytes.{IsAtEnd}
use Rattle.std.proofs.lemmas.List.{length-map}
use Rattle.d64_image.specs.Images.{Image}
use Rattle.d64_image.specs.Memory.{disk_image}
use Rattle.d64_image.specs.declared.mem_disk.MemDisk.{MemDisk}
use Rattle.disk_layout.specs.Whole.{IsWhole}
use Rattle.request_cards.specs.Ledgers.{replies}
use Rattle.request_cards.specs.declared.reply.Reply.{Reply}
use Rattle.line_text.specs.scripts.Lines.{lines}
use Rattle.host_session.specs.declared.runs.event_loop.LoopFault.TheVariants as faults
use Rattle.host_session.specs.runs.Chains.{told_in}
use Rattle.host_session.specs.session.Standing.{View}
use Rattle.host_session.specs.shop.Shop.{IsSettled, IsShop, Shop, start_of}
use Rattle.line_server.specs.Batches.{BatchInput}
use Rattle.image_log.specs.ImageLogs.{IsEither, LeavesImages, LogHistory}
use Rattle.image_log.specs.Marks.{Covers}
use Rattle.image_log.specs.Touched.{touched_of}
use Rattle.line_server.specs.logged.Batches.{HasOpened, IsKeptNow, IsServedSo, IsUnderWay}
use Rattle.line_server.specs.logged.Handling.{IsAtRest}
use Rattle.line_server.specs.logged.Keeping.{IsKept}
use Rattle.line_server.specs.logged.Memory.{Memory, image_of}
use Rattle.line_server.specs.logged.Reporting.{LogOutput}
use Rattle.line_server.specs.logged.Serves.{AreFirst, HoldsFirst, IsSafe, shop_behind}
use Rattle.line_server.proofs.lemmas.logged.Leaving.{weaker}
use Rattle.line_server.proofs.lemmas.logged.Lines.{behind_none}
use Rattle.line_server.proofs.lemmas.logged.Staying.{all_lines}
use Rattle.line_server.proofs.lemmas.logged.UnderWay as way

module _ {L R T : Type 0} (h : LogHistory L) (i : BatchInput R) (o : LogOutput L T) (disk : MemDisk) (old : L)
    (old_in : R) (old_out : T) where
  -- what the opening mended is committed
  module _ (session : View Memory) (first kept : Image) (now : L) (opened : HasOpened disk session first)
      (any_moment : h.stands_for old first → Covers (touched_of session.disk) first (image_of session.disk)
      → LeavesImages h old now (IsEither first (image_of session.disk)))
      (quiet : first ≡ image_of session.disk → now ≡ old) where
    opening_covers : Covers (touched_of session.disk) first (image_of session.disk)
    opening_covers = subst (λ (image : Image). Covers (touched_of session.disk) image (image_of session.disk))
        (sym opened.kept_is) opened.covers

    opening_safe : (s : Shop) → IsShop (disk_image disk) s → h.stands_for old (disk_image disk)
        → IsSafe h s (disk_image disk) [] [] old now
    opening_safe s shop stood = record {
      any_moment = weaker h old now (IsEither first (image_of session.disk))
          (λ c. (c ≡ disk_image disk) ⊎ HoldsFirst s [] 0 c)
          (any_moment (subst (h.stands_for old) (sym opened.kept_is) stood) opening_covers)
          (λ c either. ⊎_elim (λ e. inl (e ∙ opened.kept_is))
          (λ e. inr (all_lines s [] 0 c (omega arith)
          (subst (λ (image : Image). IsSettled image (shop_behind s [])) (sym e)
          (subst (IsSettled (image_of session.disk)) (sym (behind_none s)) (opened.rests s shop).rests))))
          either);
      files = λ whole. weaker h old now (IsEither first (image_of session.disk)) IsWhole
          (any_moment (subst (h.stands_for old) (sym opened.kept_is) stood) opening_covers)
          (λ c either. ⊎_elim (λ e. subst IsWhole (sym (e ∙ opened.kept_is)) whole)
          (λ e. subst IsWhole (sym e) (opened.files whole)) either);
      told_stays = tt;
    }

    pub begun : IsKeptNow h session.disk first kept old now
        → IsUnderWay h i o disk old old_in old_out [] session kept now old_in old_out
    begun committed = record {
      handled = [];
      whole = inl refl;
      lacks = tt;
      read = Consumes-nil (i.remaining old_in);
      turns = [];
      told = o.none old_out;
      handed = inl refl;
      kept_is = (committed opening_covers).0;
      shop = opened.shop;
      holds = λ s shop. record {
        rests = subst (IsAtRest session) (sym (behind_none s)) (opened.rests s shop);
        replies_are = refl;
        stands = λ stood. (committed opening_covers).1 (subst (h.stands_for old) (sym opened.kept_is) stood);
        safe = opening_safe s shop;
        files = opened.files;
      };
      quiet = λ s settled none.
          (quiet (opened.kept_is ∙ opened.quiet s settled), opened.quiet s settled);
    }

    pub not_begun : h.is_over now ≡ true
        → IsServedSo h i o disk old now old_in old_in old_out old_out session (Err faults.Device)
    not_begun over left is = record {
      handled = [];
      rest = [];
      whole = inl refl;
      lacks = tt;
      read = Consumes-nil (i.remaining old_in);
      turns = [];
      last = None;
      told = o.none old_out;
      replies_are = λ s shop. ([], refl, omega arith);
      safe = opening_safe;
      all = λ e. cc;
      handed = λ e. inl refl;
      rests = λ s shop why. elim why [ inl e ↦ cc | inr e ↦ cc ];
      files = λ whole. tt;
      shop = tt;
      end = tt;
      quiet = λ s settled none. quiet (opened.kept_is ∙ opened.quiet s settled);
      «open» = λ f e. cc;
      input = λ e. cc;
      device = λ e. over;
      output = λ e. cc;
    }

  -- all lines were served
  module _ (rest : List ℕ) (session : View Memory) (kept : Image) (now : L) (input : R) (out : T)
      (u : IsUnderWay h i o disk old old_in old_out rest session kept now input out) where
    turns_are : length u.turns ≡ length (lines u.handled)
    turns_are =
        let s = u.shop.0 in
        sym (length-map u.turns (λ t. t.0)) ∙ ap length (u.holds s u.shop.1).replies_are
        ∙ way.as_many_replies s (lines u.handled)

    first_are : (s : Shop) → IsShop (disk_image disk) s
        → AreFirst (told_in (u.turns ++ option_to_list None)) (replies (start_of s) [] (lines u.handled))
    first_are s shop = (
      [],
      append-nil (told_in (u.turns ++ []))
          ∙ ap told_in (append-nil u.turns) ∙ (u.holds s shop).replies_are,
      omega arith,
    )

    all_safe : (s : Shop) → IsShop (disk_image disk) s → h.stands_for old (disk_image disk)
        → IsSafe h s (disk_image disk) (lines u.handled) (u.turns ++ option_to_list None) old now
    all_safe s shop stood =
        subst (λ (ts : List (Reply × L)). IsSafe h s (disk_image disk) (lines u.handled) ts old now)
        (sym (append-nil u.turns)) ((u.holds s shop).safe stood)

    -- the disk has what the session's has
    kept_at : (left : MemDisk) → disk_image left ≡ image_of session.disk → (s : Shop) → IsShop (disk_image disk) s
        → IsSettled (disk_image left) (shop_behind s (lines u.handled))
        × (h.stands_for old (disk_image disk) → h.stands_for now (disk_image left))
    kept_at left is s shop = (
      subst (λ (image : Image). IsSettled image (shop_behind s (lines u.handled))) (sym is) (u.holds s shop).rests.rests,
      λ stood. subst (h.stands_for now) (sym is) ((u.holds s shop).stands stood),
    )

    pub over : OnSome (i.remaining old_in) (IsAtEnd (i.remaining input))
        → IsServedSo h i o disk old now old_in input old_out out session (Ok tt)
    over end left is = record {
      handled = u.handled;
      rest = rest;
      whole = u.whole;
      lacks = u.lacks;
      read = u.read;
      turns = u.turns;
      last = None;
      told = u.told;
      replies_are = first_are;
      safe = all_safe;
      all = λ e. (refl, turns_are);
      handed = λ e. u.handed;
      rests = λ s shop. kept_at left is s shop;
      files = λ whole. subst IsWhole (sym is) ((u.holds u.shop.0 u.shop.1).files whole);
      shop = u.shop;
      end = end;
      quiet = λ s settled none. (u.quiet s settled none).0;
      «open» = tt;
      input = tt;
      device = tt;
      output = tt;
    }

    pub input_failed : (i.has_failed input ≡ true) ⊎ (18446744073709551615 ≤ length (lines u.handled))
        → IsServedSo h i o disk old now old_in input old_out out session (Err faults.Input)
    input_failed why left is = record {
      handled = u.handled;
      rest = rest;
      whole = u.whole;
      lacks = u.lacks;
      read = u.read;
      turns = u.turns;
      last = None;
      told = u.told;
      replies_are = first_are;
      safe = all_safe;
      all = λ e. (refl, turns_are);
      handed = λ e. u.handed;
      rests = λ s shop why. kept_at left is s shop;
      files = λ whole. tt;
      shop = tt;
      end = tt;
      quiet = λ s settled none. (u.quiet s settled none).0;
      «open» = λ f e. cc;
      input = λ e. why;
      device = λ e. cc;
      output = λ e. cc;
    }

  -- the opening's commit passed, and the image is put back in its room
  pub begin_by : (session : View Memory) (room first kept back : Image) (now : L) (lent : Memory)
      → lent ≡ session.disk → first ≡ room → HasOpened disk session room → (E : Type 0) (x : Unit {0})
      → IsKept {L = L} {E = E} h lent first kept old now (Ok x) → back ≡ kept
      → (u : IsUnderWay h i o disk old old_in old_out [] session back now old_in old_out) × (0 ≤ length (lines u.handled))
  begin_by session room first kept back now lent same is opened E x k again =
      let from = subst (λ (i : Image). HasOpened disk session i) (sym is) opened in
      let here = subst (λ (d : Memory). IsKept {L = L} {E = E} h d first kept old now (Ok x)) same k in
      subst (λ (b : Image). (u : IsUnderWay h i o disk old old_in old_out [] session b now old_in old_out)
      × (0 ≤ length (lines u.handled))) (sym again)
      (begun session first kept now from here.any_moment here.quiet here.ok, omega arith)

  -- it didn't
  pub fail_by : (session : View Memory) (room first kept : Image) (now : L) (lent : Memory)
      → lent ≡ session.disk → first ≡ room → HasOpened disk session room → (E : Type 0) (e : E)
      → IsKept {L = L} {E = E} h lent first kept old now (Err e)
      → IsServedSo h i o disk old now old_in old_in old_out old_out session (Err faults.Device)
  fail_by session room first kept now lent same is opened E e k =
      let from = subst (λ (i : Image). HasOpened disk session i) (sym is) opened in
      let here = subst (λ (d : Memory). IsKept {L = L} {E = E} h d first kept old now (Err e)) same k in
      not_begun session first kept now from here.any_moment here.quiet here.over
