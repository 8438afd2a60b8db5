-- A batch of lines, from its lines to its replies.
use Rattle.std.proofs.Common.{◌≡◌, ◌⊎◌, ◌≤◌, ◌∙◌, ℕ, List, [], ◌∷◌, ◌++◌, ap, append-nil, append_assoc, arith, drop, inr, ⊎_elim, length, refl, subst, sym, take}
use Rattle.std.specs.Prelude.{codes, slice_index_or}
use Rattle.std.proofs.lemmas.List.{length-append, take-append-drop, take_all}
use Rattle.std.proofs.Math.Seq.{take-append_seam}
use Rattle.d64_image.specs.Images.{Image}
use Rattle.one_host.specs.Worlds.{IsMix, World}
use Rattle.one_host.specs.History.{HeldOnly, HostHistory, Since, Until}
use Rattle.one_host.proofs.Moments.{weaker}
use Rattle.request_cards.specs.Ledgers.{replies, report}
use Rattle.request_cards.specs.Texts.{reply_text}
use Rattle.request_cards.specs.declared.reply.Reply.{Reply}
use Rattle.line_text.specs.scripts.Lines.{lines}
use Rattle.host_session.specs.session.Standing.{View}
use Rattle.host_session.specs.shop.Shop.{IsSettled, Shop, start_of}
use Rattle.image_log.specs.Marks.{Covers}
use Rattle.image_log.specs.Recovered.{base_of, recovered}
use Rattle.image_log.specs.Touched.{touched_of}
use Rattle.kept_logs.specs.Files.{Leaves}
use Rattle.kept_logs.specs.Logs.{Commits, IsCommitted, MayCommit, Stands, log_file, log_in}
use Rattle.kept_logs.specs.declared.logs.KeptLog.{KeptLog}
use Rattle.kept_logs.proofs.Commits.{alone}
use Rattle.line_server.specs.Read.{AreWhole}
use Rattle.line_server.specs.logged.Handling.{AreHandled, IsAtRest, replies_after}
use Rattle.line_server.specs.logged.Memory.{Memory, image_of}
use Rattle.line_server.specs.logged.Serves.{HoldsFirst, shop_behind}
use Rattle.line_server.proofs.Cuts.{lines_two, whole_two}
use Rattle.line_server.proofs.lemmas.logged.Lines.{behind_more, replies_more, same_after, same_replies}
use Rattle.line_server.proofs.lemmas.logged.Staying.{all_lines, more_lines}
use Rattle.line_server.proofs.lemmas.logged.UnderWay.{as_many, as_many_replies}
use Rattle.served_lines.specs.Printings.{OnlySaid, has_said}
use Rattle.served_lines.specs.Readings.{bytes_left}
use Rattle.served_lines.specs.Services.{Answers, OnlyService, StandsForFirst, first_replies}
use Rattle.served_lines.specs.Steps.{Pends, Serves}
use Rattle.served_lines.specs.declared.reading.LineInput.{LineInput}
use Rattle.served_lines.proofs.Worlds.{after_file, after_said, same_hands}

pub report_append : (xs ys : List Reply) → report (xs ++ ys) ≡ report xs ++ report ys
report_append [] ys = refl
report_append (x ∷ xs) ys = ap (λ (l : List ℕ). reply_text x ++ codes "\n" ++ l) (report_append xs ys)
    ∙ sym (append_assoc (reply_text x ++ codes "\n") (report xs) (report ys))

-- what a power loss leaves of a log that is synced
pub left_alone : (l : KeptLog) (start now : Image) (w : World) → Stands l start now w → (P : Image → Type 0) → P now
    → Leaves (log_file l) (λ c. (base_of c ≡ start) × P (recovered c)) w
left_alone l start now w s P p c mix =
    let is = alone (log_in w l) c (subst (λ (b : List (List ℕ)). IsMix (log_in w l) b c) s.safe.before mix) in
    (ap base_of is ∙ s.base, subst P (sym (ap recovered is ∙ s.image)) p)

-- all replies to these lines
pub all_replies : (s : Shop) (ls : List (List ℕ)) → first_replies s ls (length ls) ≡ report (replies (start_of s) [] ls)
all_replies s ls = ap report (take_all (length ls) (replies (start_of s) [] ls) (omega (arith, as_many_replies s ls)))

module _ (s : Shop) (start image : Image) (v : World) (old new : View Memory) (kept : Image) (log : KeptLog) (input : LineInput)
    (texts : List (List ℕ)) (answers : List Reply) (handled : AreHandled old new texts answers) where
  module _ (u : World) (p : Pends s start image v old kept log input texts u) where
    abbrev before : List ℕ
    before = p.handled

    abbrev more : List ℕ
    more = p.more

    abbrev all : List ℕ
    all = before ++ more

    behind : Shop
    behind = shop_behind s (lines before)

    lines_are : lines all ≡ lines before ++ lines more
    lines_are = lines_two before more p.at_rest.whole

    answers_are : answers ≡ replies_after (shop_behind s (lines before)) (lines more)
    answers_are = (handled.told (shop_behind s (lines before)) p.at_rest.rests).0 ∙ same_replies (shop_behind s (lines before)) texts (lines more) p.same

    pub few : length texts ≤ 512 → length answers ≤ 512
    few le = omega (arith, le, ap length (handled.told (shop_behind s (lines before)) p.at_rest.rests).0, as_many (shop_behind s (lines before)) texts)

    rests_now : IsAtRest new (shop_behind s (lines all))
    rests_now = subst (λ ls. IsAtRest new (shop_behind s ls)) (sym lines_are)
        (subst (λ t. IsAtRest new t)
        (same_after (shop_behind s (lines before)) texts (lines more) p.same ∙ behind_more s (lines before) (lines more))
        (handled.told (shop_behind s (lines before)) p.at_rest.rests).1)

    pub may_commit : MayCommit log start kept (touched_of new.disk) (image_of new.disk) u
    may_commit = record {
      stands = p.at_rest.stands;
      covers = handled.marks (shop_behind s (lines before)) p.at_rest.rests kept
          (λ index low untouched. ap (λ (i : Image). slice_index_or i index []) p.at_rest.kept_is);
    }

    -- the replies of these lines come after those before
    said_all : report (replies (start_of s) [] (lines all)) ≡ report (replies (start_of s) [] (lines before)) ++ report answers
    said_all = ap (λ ls. report (replies (start_of s) [] ls)) lines_are
        ∙ ap report (replies_more s (lines before) (lines more))
        ∙ report_append (replies (start_of s) [] (lines before)) (replies_after (shop_behind s (lines before)) (lines more))
        ∙ ap (λ rs. report (replies (start_of s) [] (lines before)) ++ report rs) (sym answers_are)

    said_before : first_replies s (lines all) (length (lines before)) ≡ report (replies (start_of s) [] (lines before))
    said_before = ap (λ ls. first_replies s ls (length (lines before))) lines_are
        ∙ ap (λ rs. report (take (length (lines before)) rs)) (replies_more s (lines before) (lines more))
        ∙ ap (λ n. report (take n (replies (start_of s) [] (lines before) ++ replies_after (shop_behind s (lines before)) (lines more))))
        (sym (as_many_replies s (lines before)))
        ∙ ap report (take-append_seam (replies (start_of s) [] (lines before)) (replies_after (shop_behind s (lines before)) (lines more)))

    heard_are : u.heard ≡ v.heard ++ (all ++ (p.at_rest.awaits.begun ++ bytes_left input))
    heard_are = p.at_rest.awaits.all_are ∙ append_assoc v.heard all (p.at_rest.awaits.begun ++ bytes_left input)

    all_whole : AreWhole all
    all_whole = whole_two before more p.at_rest.whole p.whole

    -- while the log is written
    pub commit_answers : (w : World) → Commits u log start kept (image_of new.disk) w → Answers s start image v (log_file log) w
    commit_answers w c = record {
      only = after_file v (log_file log) u w p.at_rest.only c.only;
      handled = all;
      rest = p.at_rest.awaits.begun ++ bytes_left input;
      whole = all_whole;
      heard = ap (λ (x : World). x.heard) c.only.rest ∙ heard_are;
      told = length (lines before);
      unsaid = [];
      said = append-nil w.said ∙ ap (λ (x : World). x.said) c.only.rest ∙ p.at_rest.said ∙ ap (λ l. v.said ++ l) (sym said_before);
      left = λ x mix. ((c.leaves x mix).base, inr (holds x (c.leaves x mix).image));
    }
      where
        holds : (x : List ℕ) → (recovered x ≡ kept) ⊎ (recovered x ≡ image_of new.disk) → HoldsFirst s (lines all) (length (lines before)) (recovered x)
        holds x = ⊎_elim
            (λ (e : recovered x ≡ kept). subst (λ ls. HoldsFirst s ls (length (lines before)) (recovered x)) (sym lines_are)
            (more_lines s (lines before) (lines more) (length (lines before)) (recovered x)
            (all_lines s (lines before) (length (lines before)) (recovered x) (omega arith)
            (subst (λ (i : Image). IsSettled i (shop_behind s (lines before))) (sym (e ∙ p.at_rest.kept_is)) p.at_rest.rests.rests))))
            (λ (e : recovered x ≡ image_of new.disk).
            all_lines s (lines all) (length (lines before)) (recovered x)
            (omega (arith, ap length lines_are, length-append (lines before) (lines more)))
            (subst (λ (i : Image). IsSettled i (shop_behind s (lines all))) (sym e) rests_now.rests))

    -- once it is written
    module _ (m : KeptLog) (w : World) (c : IsCommitted u log m start (image_of new.disk) w) where
      pub said_answers : (text : List ℕ) → text ≡ report answers → (y : World) → OnlySaid w text y → Answers s start image v (log_file log) y
      said_answers text is y o = record {
        only = after_said v (log_file log) w y (after_file v (log_file log) u w p.at_rest.only c.only) (take o.count text) o.is;
        handled = all;
        rest = p.at_rest.awaits.begun ++ bytes_left input;
        whole = all_whole;
        heard = ap (λ (x : World). x.heard) o.is ∙ ap (λ (x : World). x.heard) c.only.rest ∙ heard_are;
        told = length (lines all);
        unsaid = drop o.count text;
        said = ap (λ (x : World). x.said ++ drop o.count text) o.is
            ∙ append_assoc w.said (take o.count text) (drop o.count text)
            ∙ ap (λ l. w.said ++ l) (take-append-drop o.count text ∙ is)
            ∙ ap (λ (x : World). x.said ++ report answers) c.only.rest
            ∙ ap (λ l. l ++ report answers) p.at_rest.said
            ∙ append_assoc v.said (report (replies (start_of s) [] (lines before))) (report answers)
            ∙ ap (λ l. v.said ++ l) (sym said_all ∙ sym (all_replies s (lines all)));
        left = subst (λ n. Leaves n (λ x. (base_of x ≡ start) × StandsForFirst s image (lines all) (length (lines all)) (recovered x)) y) c.file
            (subst (λ (z : World). Leaves (log_file m) (λ x. (base_of x ≡ start) × StandsForFirst s image (lines all) (length (lines all)) (recovered x)) z) (sym o.is)
            (left_alone m start (image_of new.disk) w c.stands (StandsForFirst s image (lines all) (length (lines all)))
            (inr (all_lines s (lines all) (length (lines all)) (image_of new.disk) (omega arith) rests_now.rests))));
      }

      pub serves : (next : Image) → next ≡ image_of new.disk → (text : List ℕ) → text ≡ report answers → (y : World) → y ≡ has_said w text
          → Serves s start image v new next m input y
      serves next next_is text is y said_is = record {
        handled = all;
        at_rest = record {
          only = subst (λ n. OnlyService v n y) (sym c.file) (after_said v (log_file log) w y (after_file v (log_file log) u w p.at_rest.only c.only) text said_is);
          whole = all_whole;
          awaits = record {
            begun = p.at_rest.awaits.begun;
            lacks = p.at_rest.awaits.lacks;
            kept_is = p.at_rest.awaits.kept_is;
            all_are = ap (λ (x : World). x.heard) said_is ∙ ap (λ (x : World). x.heard) c.only.rest ∙ p.at_rest.awaits.all_are
                ∙ ap (λ l. (v.heard ++ l) ++ (p.at_rest.awaits.begun ++ bytes_left input)) (sym (append-nil all));
          };
          stands = subst (λ (i : Image). Stands m start i y) (sym next_is)
              (subst (λ (z : World). Stands m start (image_of new.disk) z) (sym said_is) (stands_said c.stands));
          kept_is = next_is;
          rests = rests_now;
          said = ap (λ (x : World). x.said) said_is
              ∙ ap (λ l. w.said ++ l) is
              ∙ ap (λ (x : World). x.said ++ report answers) c.only.rest
              ∙ ap (λ l. l ++ report answers) p.at_rest.said
              ∙ append_assoc v.said (report (replies (start_of s) [] (lines before))) (report answers)
              ∙ ap (λ l. v.said ++ l) (sym said_all);
        };
      }
        where
          stands_said : Stands m start (image_of new.disk) w → Stands m start (image_of new.disk) (has_said w text)
          stands_said x = record { safe = record { before = x.safe.before; sure = x.safe.sure }; log = x.log; based = x.based; base = x.base; image = x.image }

  -- the calls
  module _ {H : Type 0} (S : HostHistory H) (a b : H) (n : ℕ) (since : Since n (Pends s start image v old kept log input texts) (S.world a)) where
    pub may : Since n (MayCommit log start kept (touched_of new.disk) (image_of new.disk)) (S.world a)
    may = record { count = since.count; is = λ e. may_commit (S.world a) (since.is e) }

    pub commit_held : HeldOnly S a b (Until n (Commits (S.world a) log start kept (image_of new.disk))) → HeldOnly S a b (Until n (Answers s start image v (log_file log)))
    commit_held held = weaker S a b (Until n (Commits (S.world a) log start kept (image_of new.disk))) (Until n (Answers s start image v (log_file log)))
        (λ w m e. commit_answers (S.world a) (since.is (sym (same_hands (S.world a) (log_file log) w (m e).only) ∙ e)) w (m e)) held

    module _ (m : KeptLog) (committed : Since n (IsCommitted (S.world a) log m start (image_of new.disk)) (S.world b)) (text : List ℕ)
        (is : length answers ≤ 512 → text ≡ report answers) (le : length texts ≤ 512) (d : H) where
      pend : (S.world b).hands ≡ n → Pends s start image v old kept log input texts (S.world a)
      pend e = since.is (sym (same_hands (S.world a) (log_file log) (S.world b) (committed.is e).only) ∙ e)

      pub print_held : HeldOnly S b d (Until n (OnlySaid (S.world b) text)) → HeldOnly S b d (Until n (Answers s start image v (log_file log)))
      print_held held = weaker S b d (Until n (OnlySaid (S.world b) text)) (Until n (Answers s start image v (log_file log)))
          (λ y o e.
          let e2 : (S.world b).hands ≡ n = sym (ap (λ (x : World). x.hands) (o e).is) ∙ e in
          said_answers (S.world a) (pend e2) m (S.world b) (committed.is e2) text (is (few (S.world a) (pend e2) le)) y (o e)) held

      pub served : (next : Image) → (Covers (touched_of new.disk) kept (image_of new.disk) → next ≡ image_of new.disk)
          → Since n (λ w. w ≡ has_said (S.world b) text) (S.world d) → Since n (Serves s start image v new next m input) (S.world d)
      served next next_is printed = record {
        count = printed.count;
        is = λ e.
            let e2 : (S.world b).hands ≡ n = sym (ap (λ (x : World). x.hands) (printed.is e)) ∙ e in
            serves (S.world a) (pend e2) m (S.world b) (committed.is e2) next (next_is (may_commit (S.world a) (pend e2)).covers)
            text (is (few (S.world a) (pend e2) le)) (S.world d) (printed.is e);
      }
