-- An open session: its first commit, and what is read before each batch.
use Rattle.std.proofs.Common.{◌≡◌, ◌⊎◌, ◌∙◌, ℕ, Bool, true, false, List, [], ◌∷◌, ◌++◌, ap, append-nil, append_assoc, arith, inl, inr, ⊎_elim, length, map, refl, subst, sym}
use Rattle.d64_image.specs.Images.{Image}
use Rattle.d64_image.specs.Memory.{disk_image}
use Rattle.d64_image.specs.declared.mem_disk.MemDisk.{MemDisk}
use Rattle.one_host.specs.Worlds.{World}
use Rattle.one_host.specs.History.{HeldOnly, HostHistory, Since, Until}
use Rattle.one_host.proofs.Moments.{at_end, weaker}
use Rattle.request_cards.specs.Ledgers.{replies, report}
use Rattle.request_cards.specs.Reading.{request_of}
use Rattle.line_text.specs.scripts.Lines.{lines}
use Rattle.host_session.specs.session.Standing.{View}
use Rattle.host_session.specs.shop.Shop.{IsSettled, IsShop, Shop, start_of}
use Rattle.image_log.specs.Marks.{Covers}
use Rattle.image_log.specs.Recovered.{base_of, recovered}
use Rattle.image_log.specs.Touched.{touched_of}
use Rattle.kept_logs.specs.Files.{Leaves}
use Rattle.kept_logs.specs.Logs.{Commits, IsCommitted, MayCommit, Stands, log_file}
use Rattle.kept_logs.specs.declared.logs.KeptLog.{KeptLog}
use Rattle.line_server.specs.Read.{LacksLf}
use Rattle.line_server.specs.logged.Batches.{HasOpened}
use Rattle.line_server.specs.logged.Handling.{IsAtRest}
use Rattle.line_server.specs.logged.Memory.{Memory, image_of}
use Rattle.line_server.specs.logged.Serves.{shop_behind}
use Rattle.line_server.proofs.Cuts.{lines_two, whole_two}
use Rattle.line_server.proofs.lemmas.logged.Lines.{behind_none}
use Rattle.line_server.proofs.lemmas.logged.Staying.{all_lines}
use Rattle.served_lines.specs.Readings.{Gives, GoesOn, HasMore, OnlyHeard, bytes_left}
use Rattle.served_lines.specs.Services.{Answers, HasServed, OnlyService, StandsForFirst}
use Rattle.served_lines.specs.Steps.{Pends, Serves}
use Rattle.served_lines.specs.declared.reading.LineInput.{LineInput}
use Rattle.served_lines.proofs.Batches.{all_replies, left_alone}
use Rattle.served_lines.proofs.Worlds.{after_file, after_heard, same_hands, service_none}

no_lines : (ls : List (List ℕ)) → map request_of ls ≡ [] → ls ≡ []
no_lines [] e = refl
no_lines (l ∷ ls) e = absurd (cc e)

module _ (s : Shop) (start : Image) (disk : MemDisk) (session : View Memory) (kept : Image) (opened : HasOpened disk session kept) (shop : IsShop (disk_image disk) s)
    (log : KeptLog) (v : World) where
  abbrev image : Image
  image = disk_image disk

  rests : IsAtRest session (shop_behind s [])
  rests = subst (λ t. IsAtRest session t) (sym (behind_none s)) (opened.rests s shop)

  pub may_open : Stands log start image v → MayCommit log start kept (touched_of session.disk) (image_of session.disk) v
  may_open stands = record {
    stands = subst (λ (i : Image). Stands log start i v) (sym opened.kept_is) stands;
    covers = subst (λ (i : Image). Covers (touched_of session.disk) i (image_of session.disk)) (sym opened.kept_is) opened.covers;
  }

  -- while the log is written
  pub opening_answers : (w : World) → Commits v log start kept (image_of session.disk) w → Answers s start image v (log_file log) w
  opening_answers w c = record {
    only = after_file v (log_file log) v w (service_none v (log_file log)) c.only;
    handled = [];
    rest = [];
    whole = inl refl;
    heard = ap (λ (x : World). x.heard) c.only.rest ∙ sym (append-nil v.heard);
    told = 0;
    unsaid = [];
    said = ap (λ (x : World). x.said ++ []) c.only.rest;
    left = λ x mix. ((c.leaves x mix).base, holds x (c.leaves x mix).image);
  }
    where
      holds : (x : List ℕ) → (recovered x ≡ kept) ⊎ (recovered x ≡ image_of session.disk) → StandsForFirst s image [] 0 (recovered x)
      holds x = ⊎_elim (λ (e : recovered x ≡ kept). inl (e ∙ opened.kept_is, refl))
          (λ (e : recovered x ≡ image_of session.disk). inr (all_lines s [] 0 (recovered x) (omega arith)
          (subst (λ (i : Image). IsSettled i (shop_behind s [])) (sym e) rests.rests)))

  -- once it is written
  pub begins : (m : KeptLog) (next : Image) (next_is : next ≡ image_of session.disk) (input : LineInput) (fresh : (before : List ℕ) → HasMore input before before) (w : World)
      → IsCommitted v log m start (image_of session.disk) w → Serves s start image v session next m input w
  begins m next next_is input fresh w c = record {
    handled = [];
    at_rest = record {
      only = subst (λ n. OnlyService v n w) (sym c.file) (after_file v (log_file log) v w (service_none v (log_file log)) c.only);
      whole = inl refl;
      awaits = subst (λ (l : List ℕ). HasMore input l w.heard) (ap (λ (x : World). x.heard) c.only.rest ∙ sym (append-nil v.heard)) (fresh w.heard);
      stands = subst (λ (i : Image). Stands m start i w) (sym next_is) c.stands;
      kept_is = next_is;
      rests = rests;
      said = ap (λ (x : World). x.said) c.only.rest ∙ sym (append-nil v.said);
    };
  }

  -- the calls
  module _ {H : Type 0} (S : HostHistory H) (a b : H) (n : ℕ) (is : v ≡ S.world a) (since : Since n (Stands log start image) (S.world a)) where
    pub may : Since n (MayCommit log start kept (touched_of session.disk) (image_of session.disk)) (S.world a)
    may = record {
      count = since.count;
      is = λ e. subst (MayCommit log start kept (touched_of session.disk) (image_of session.disk)) is
          (may_open (subst (Stands log start image) (sym is) (since.is e)));
    }

    pub opening_held : HeldOnly S a b (Until n (Commits (S.world a) log start kept (image_of session.disk))) → HeldOnly S a b (Until n (Answers s start image v (log_file log)))
    opening_held held = weaker S a b (Until n (Commits (S.world a) log start kept (image_of session.disk))) (Until n (Answers s start image v (log_file log)))
        (λ w m e. opening_answers w (subst (λ (x : World). Commits x log start kept (image_of session.disk) w) (sym is) (m e))) held

    pub begun : (m : KeptLog) (next : Image) → (Covers (touched_of session.disk) kept (image_of session.disk) → next ≡ image_of session.disk) → (input : LineInput)
        → ((before : List ℕ) → HasMore input before before) → Since n (IsCommitted (S.world a) log m start (image_of session.disk)) (S.world b)
        → Since n (Serves s start image v session next m input) (S.world b)
    begun m next next_is input fresh committed = record {
      count = committed.count;
      is = λ e.
          let e1 : (S.world a).hands ≡ n = sym (same_hands (S.world a) (log_file log) (S.world b) (committed.is e).only) ∙ e in
          begins m next (next_is (may.is e1).covers) input fresh (S.world b)
          (subst (λ (x : World). IsCommitted x log m start (image_of session.disk) (S.world b)) (sym is) (committed.is e));
    }

-- what is read before a batch
module _ (s : Shop) (start image : Image) (v : World) (session : View Memory) (kept : Image) (log : KeptLog) (i j : LineInput) where
  pub heard_answers : (u : World) → Serves s start image v session kept log i u → (w : World) → OnlyHeard u w → Answers s start image v (log_file log) w
  heard_answers u q w h = record {
    only = after_heard v (log_file log) u w q.at_rest.only h;
    handled = q.handled;
    rest = (q.at_rest.awaits.begun ++ bytes_left i) ++ h.more;
    whole = q.at_rest.whole;
    heard = ap (λ (x : World). x.heard) h.is
        ∙ ap (λ l. l ++ h.more) (q.at_rest.awaits.all_are ∙ ap (λ l. (v.heard ++ l) ++ (q.at_rest.awaits.begun ++ bytes_left i)) (append-nil q.handled)
        ∙ append_assoc v.heard q.handled (q.at_rest.awaits.begun ++ bytes_left i))
        ∙ append_assoc v.heard (q.handled ++ (q.at_rest.awaits.begun ++ bytes_left i)) h.more
        ∙ ap (λ l. v.heard ++ l) (append_assoc q.handled (q.at_rest.awaits.begun ++ bytes_left i) h.more);
    told = length (lines q.handled);
    unsaid = [];
    said = append-nil w.said ∙ ap (λ (x : World). x.said) h.is ∙ q.at_rest.said ∙ ap (λ l. v.said ++ l) (sym (all_replies s (lines q.handled)));
    left = subst (λ (x : World). Leaves (log_file log) (λ c. (base_of c ≡ start) × StandsForFirst s image (lines q.handled) (length (lines q.handled)) (recovered c)) x) (sym h.is)
        (left_alone log start kept u q.at_rest.stands (StandsForFirst s image (lines q.handled) (length (lines q.handled)))
        (inr (all_lines s (lines q.handled) (length (lines q.handled)) kept (omega arith)
        (subst (λ (x : Image). IsSettled x (shop_behind s (lines q.handled))) (sym q.at_rest.kept_is) q.at_rest.rests.rests))));
  }

  module _ (u : World) (q : Serves s start image v session kept log i u) (texts : List (List ℕ)) (some : Bool) (w : World)
      (goes : GoesOn u i j texts some w) where
    g : Gives u j (v.heard ++ (q.handled ++ [])) texts some w
    g = goes (v.heard ++ (q.handled ++ [])) q.at_rest.awaits

    stands_heard : Stands log start kept w
    stands_heard = subst (Stands log start kept) (sym g.only.is) (record {
      safe = record { before = q.at_rest.stands.safe.before; sure = q.at_rest.stands.safe.sure };
      log = q.at_rest.stands.log;
      based = q.at_rest.stands.based;
      base = q.at_rest.stands.base;
      image = q.at_rest.stands.image;
    })

    pub pends : Pends s start image v session kept log j texts w
    pends = record {
      handled = q.handled;
      more = g.handled;
      whole = g.whole;
      same = g.same;
      at_rest = record {
        only = after_heard v (log_file log) u w q.at_rest.only g.only;
        whole = q.at_rest.whole;
        awaits = subst (λ (l : List ℕ). HasMore j l w.heard)
            (ap (λ l. (v.heard ++ l) ++ g.handled) (append-nil q.handled) ∙ append_assoc v.heard q.handled g.handled) g.awaits;
        stands = stands_heard;
        kept_is = q.at_rest.kept_is;
        rests = q.at_rest.rests;
        said = ap (λ (x : World). x.said) g.only.is ∙ q.at_rest.said;
      };
    }

    abbrev all : List ℕ
    all = q.handled ++ g.handled

    -- where none was taken
    lines_same : texts ≡ [] → lines all ≡ lines q.handled
    lines_same none = lines_two q.handled g.handled q.at_rest.whole
        ∙ ap (λ ls. lines q.handled ++ ls) (no_lines (lines g.handled) (sym g.same ∙ ap (map request_of) none))
        ∙ append-nil (lines q.handled)

    pub ends : some ≡ false → HasServed s start v (image_of session.disk) log w
    ends none =
        let over = g.over none in
        let same = lines_same over.0 in
        record {
          only = after_heard v (log_file log) u w q.at_rest.only g.only;
          handled = all;
          rest = g.awaits.begun ++ bytes_left j;
          whole = whole_two q.handled g.handled q.at_rest.whole g.whole;
          heard = g.awaits.all_are
              ∙ ap (λ l. l ++ (g.awaits.begun ++ bytes_left j)) (ap (λ l. (v.heard ++ l) ++ g.handled) (append-nil q.handled) ∙ append_assoc v.heard q.handled g.handled)
              ∙ append_assoc v.heard all (g.awaits.begun ++ bytes_left j);
          over = ⊎_elim
              (λ (x : (w.ended ≡ true) × (bytes_left j ≡ [])). inl (
                x.0,
                subst (λ (l : List ℕ). LacksLf (g.awaits.begun ++ l)) (sym x.1)
                    (subst LacksLf (sym (append-nil g.awaits.begun)) g.awaits.lacks),
              ))
              (λ long. inr long) over.1;
          said = ap (λ (x : World). x.said) g.only.is ∙ q.at_rest.said ∙ ap (λ ls. v.said ++ report (replies (start_of s) [] ls)) (sym same);
          stands = subst (λ (x : Image). Stands log start x w) q.at_rest.kept_is stands_heard;
          rests = subst (λ ls. IsSettled (image_of session.disk) (shop_behind s ls)) (sym same) q.at_rest.rests.rests;
        }

  -- the calls
  module _ {H : Type 0} (S : HostHistory H) (a b : H) (n k : ℕ) (file : log_file log ≡ k)
      (since : Since n (Serves s start image v session kept log i) (S.world a))
      (held : HeldOnly S a b (Until n (OnlyHeard (S.world a)))) where
    was : (w : World) → OnlyHeard (S.world a) w → w.hands ≡ n → (S.world a).hands ≡ n
    was w o e = sym (ap (λ (x : World). x.hands) o.is) ∙ e

    pub heard_held : HeldOnly S a b (Until n (Answers s start image v k))
    heard_held = weaker S a b (Until n (OnlyHeard (S.world a))) (Until n (Answers s start image v k))
        (λ w m e. subst (λ m. Answers s start image v m w) file (heard_answers (S.world a) (since.is (was w (m e) e)) w (m e))) held

    module _ (texts : List (List ℕ)) (some : Bool) (goes : Since n (GoesOn (S.world a) i j texts some) (S.world b)) where
      before : (S.world b).hands ≡ n → Serves s start image v session kept log i (S.world a)
      before e = since.is (was (S.world b) (at_end S a b (Until n (OnlyHeard (S.world a))) held e) e)

      pub pend : (next : Image) → next ≡ kept → (taken : List (List ℕ)) → taken ≡ texts → Since n (Pends s start image v session next log j taken) (S.world b)
      pend next next_is taken taken_is = record {
        count = goes.count;
        is = λ e. subst (λ (x : Image). Pends s start image v session x log j taken (S.world b)) (sym next_is)
            (subst (λ ts. Pends s start image v session kept log j ts (S.world b)) (sym taken_is)
            (pends (S.world a) (before e) texts some (S.world b) (goes.is e)));
      }

      pub end : some ≡ false → Since n (HasServed s start v (image_of session.disk) log) (S.world b)
      end none = record { count = goes.count; is = λ e. ends (S.world a) (before e) texts some (S.world b) (goes.is e) none }
