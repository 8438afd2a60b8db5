-- A run over a mirror, as one of its file: event by event.
use Rattle.std.proofs.Common.{◌≡◌, ◌<◌, ◌≤◌, ◌+◌, ℕ, Bool, List, [], ◌∷◌, ◌++◌, None, Option, Some, ap, ⊎_elim}
use Rattle.std.proofs.Common.{arith, length, refl, subst, sym}
use Rattle.std.specs.Prelude.{◌*◌, if◌then◌else◌, nat_lt}
use Rattle.d64_image.specs.declared.kept_mirror.KeptMirror.{KeptMirror}
use Rattle.d64_image.specs.declared.sector_file.SectorFile.{Ghosts}
use Rattle.d64_image.specs.FileDisks.{FileDisk, fails_since, in_run}
use Rattle.d64_image.specs.History.{History}
use Rattle.host_session.specs.Held.{Changes}
use Rattle.d64_image.specs.Images.{Image}
use Rattle.d64_image.specs.KeptMirrors.{IsMirrored, is_broken, mirror, mirrored_then, one_if}
use Rattle.d64_image.proofs.FileRuns.{failed_by_file, file_disk, one_if-false, since_grows, since_whole}
use Rattle.host_session.proofs.lemmas.Held.{held_by_file}
use Rattle.host_session.specs.runs.Chains.{HasRun, HasRunToFailure, IsChain, over_instants}
use Rattle.host_session.specs.events.Counted.{after_all}
use Rattle.host_session.specs.events.Events.{Message}
use Rattle.host_session.specs.events.Instants.{instant_of}
use Rattle.host_session.specs.events.OneEvent.{EndsFailed, GoesOn, IsEvent}
use Rattle.host_session.specs.shop.Files.{Files, HasFiles}
use Rattle.host_session.specs.session.Handling.{most_writes}
use Rattle.host_session.specs.events.Quiet.{AreUncut, IsLeftAlone, IsQuiet}
use Rattle.host_session.specs.runs.Runs.{IsBlamed, blamed}
use Rattle.host_session.specs.shop.Shop.{Shop, shop_of, start_of, with_state}
use Rattle.host_session.specs.events.Within.{AreFew, AreWithin, IsBounded, IsSpared, IsWithin, most_of_run}
use Rattle.request_cards.specs.Ledgers.{State}
use Rattle.request_cards.specs.Reading.{request_of}
use Rattle.request_cards.specs.declared.reply.Reply.{Reply}
use Rattle.shop_commands.proofs.FileTurns.{broken_or, over_files, same_broken}

module _ {F : Type 0} {G : Ghosts F} where
  -- where no failure of the mirror was counted, none of its file's was
  pub unfailed_file : (first : F) (a b : KeptMirror F G) → IsMirrored a b → one_if b.broken ≡ one_if a.broken
      → fails_since G.keeps first b.file ≡ fails_since G.keeps first a.file
  unfailed_file first a b x same = ⊎_elim
      (λ (broken : is_broken b). ap (λ file. fails_since G.keeps first file)
      (x.broken (same_broken a.broken b.broken same broken)).1)
      (λ (sound : is_broken b → ⊥). ap
      (λ n. if nat_lt n G.keeps.last then (if nat_lt (G.keeps.failures first) n then 1 else 0) else 1)
      (x.unfailed sound))
      (broken_or b.broken)

  module _ (start : KeptMirror F G) (whole : is_broken start → ⊥) where
    -- the file as a disk, in the run that begins with this mirror
    abbrev pub of_file : History (FileDisk G.keeps)
    of_file = in_run G.keeps start.file

    pub same_instants : (xs : List (Reply × KeptMirror F G))
        → over_instants mirror xs ≡ over_instants of_file (over_files xs)
    same_instants [] = refl
    same_instants (x ∷ xs) = ap (λ rest. (x.0, instant_of mirror x.1) ∷ rest) (same_instants xs)

    pub blamed_file : (a b : KeptMirror F G) → IsMirrored start b → IsMirrored a b → (fails : List Bool)
        → IsBlamed mirror a b fails → IsBlamed of_file (file_disk a) (file_disk b) fails
    blamed_file a b x y fails blame few =
        let sound : one_if b.broken ≡ 0 = one_if-false b.broken (since_whole start whole b x few) in
        let none : one_if a.broken + blamed fails ≤ one_if b.broken = blame (omega (arith, sound)) in
        omega (arith, none, sound, since_grows G.keeps start.file a.file b.file y.failures)

    -- what left the mirror alone left its file alone
    pub alone_of_file : (cut : Option ℕ) (a b : KeptMirror F G) → IsLeftAlone mirror cut a b
        → IsLeftAlone of_file cut (file_disk a) (file_disk b)
    alone_of_file None a b same = ap file_disk same
    alone_of_file (Some after) a b held = held_by_file start.file a b _ held

    -- one event
    abbrev event_of_file : (s : Shop) (m : Message) (a b : KeptMirror F G) (Ends NewEnds : Bool → State → Type 0)
        → ((f : Bool) (t : State) → Ends f t → NewEnds f t)
        → IsMirrored start a → IsEvent mirror s m a b Ends → IsEvent of_file s m (file_disk a) (file_disk b) NewEnds
    event_of_file s m a b Ends NewEnds ends x e = record {
      failed = e.failed;
      counted = e.counted;
      is = e.is;
      blame = λ so. failed_by_file start whole a b (mirrored_then start a b x e.moments.reached) e.moments.reached
          (e.blame so);
      later = since_grows G.keeps start.file a.file b.file e.moments.reached.failures;
      unfailed = λ none passed. unfailed_file start.file a b e.moments.reached (e.unfailed none passed);
      moments = held_by_file start.file a b _ e.moments;
      quiet = λ asks. alone_of_file m.cut_after a b (e.quiet asks);
      ends = ends e.failed _ e.ends;
    }

    goes_on : (s : Shop) (m : Message) (reply : Reply) (b : KeptMirror F G) (f : Bool) (t : State)
        → GoesOn mirror s m reply b f t → GoesOn of_file s m reply (file_disk b) f t
    goes_on s m reply b f t x = record { told = x.told; answered = x.answered; settled = x.settled }

    pub ends_failed : (s : Shop) (m : Message) (reply : Reply) (b : KeptMirror F G) (f : Bool) (t : State)
        → EndsFailed mirror s m reply b f t → EndsFailed of_file s m reply (file_disk b) f t
    ends_failed s m reply b f t x = record { told = x.told; asked = x.asked; is_failed = x.is_failed; shop = x.shop }

    pub chain_of_file : (s : Shop) (ms : List Message) (xs : List (Reply × KeptMirror F G)) (a : KeptMirror F G) (t : Shop)
        (b : KeptMirror F G) → IsMirrored start a
        → IsChain mirror s ms xs a t b → IsChain of_file s ms (over_files xs) (file_disk a) t (file_disk b)
    chain_of_file s [] [] a t b x chain = (chain.0, ap file_disk chain.1)
    chain_of_file s [] (y ∷ ys) a t b x chain = absurd chain
    chain_of_file s (m ∷ ms) [] a t b x chain = absurd chain
    chain_of_file s (m ∷ ms) (y ∷ ys) a t b x chain = (
      event_of_file s m a y.1 _ _ (goes_on s m y.0 y.1) x chain.0,
      chain_of_file (with_state s (after_all (start_of s) s.state chain.0.counted)) ms ys y.1 t b
          (mirrored_then start a y.1 x chain.0.moments.reached) chain.1,
    )

    -- the mirrors of a chain come of one another
    pub chain_reached : (s : Shop) (ms : List Message) (xs : List (Reply × KeptMirror F G)) (a : KeptMirror F G) (t : Shop)
        (b : KeptMirror F G) → IsMirrored start a
        → IsChain mirror s ms xs a t b → IsMirrored start b
    chain_reached s [] [] a t b x chain = subst (λ (m : KeptMirror F G). IsMirrored start m) (sym chain.1) x
    chain_reached s [] (y ∷ ys) a t b x chain = absurd chain
    chain_reached s (m ∷ ms) [] a t b x chain = absurd chain
    chain_reached s (m ∷ ms) (y ∷ ys) a t b x chain =
        chain_reached (with_state s (after_all (start_of s) s.state chain.0.counted)) ms ys y.1 t b
        (mirrored_then start a y.1 x chain.0.moments.reached) chain.1

    -- what a message wrote, of a file that counts no sector that the mirror doesn't
    within_one : (m : Message) (a b : KeptMirror F G) → IsWithin mirror m a b
        → G.keeps.writes b.file + a.taken.n ≤ G.keeps.writes a.file + b.taken.n
        → IsWithin of_file m (file_disk a) (file_disk b)
    within_one m a b x counted = record {
      most = let most : b.taken.n ≤ a.taken.n + 3618 = x.most in omega (arith, most, counted);
      needed = λ (f : Files) (y : HasFiles (mirror.image a) f).
          let need : b.taken.n ≤ a.taken.n + most_writes (shop_of f) y.stock_file (request_of m.bytes) = x.needed f y in
          omega (arith, need, counted);
    }

    -- each message of a chain, whose mirror's count stays exact
    within_on : (s : Shop) (ms : List Message) (xs : List (Reply × KeptMirror F G)) (a : KeptMirror F G) (t : Shop)
        (b : KeptMirror F G) → IsChain mirror s ms xs a t b → AreUncut ms
        → a.taken.n + 3618 * length ms < 18446744073709551615
        → AreWithin mirror ms xs a → AreWithin of_file ms (over_files xs) (file_disk a)
    within_on s [] [] a t b chain uncut few each = tt
    within_on s [] (y ∷ ys) a t b chain uncut few each = absurd chain
    within_on s (m ∷ ms) [] a t b chain uncut few each = absurd chain
    within_on s (m ∷ ms) (y ∷ ys) a t b chain uncut few each =
        let one : IsWithin mirror m a y.1 = each.0 uncut.0 in
        let most : y.1.taken.n ≤ a.taken.n + 3618 = one.most in (
          λ _. within_one m a y.1 one (chain.0.moments.reached.counted (omega (arith, most, few))),
          within_on (with_state s (after_all (start_of s) s.state chain.0.counted)) ms ys y.1 t b chain.1 uncut.1
              (omega (arith, most, few)) each.1,
        )

    -- and one message behind it
    within_last : (s : Shop) (ms : List Message) (xs : List (Reply × KeptMirror F G)) (a : KeptMirror F G) (t : Shop)
        (at : KeptMirror F G) (m : Message) (reply : Reply) (b : KeptMirror F G) → IsChain mirror s ms xs a t at
        → IsMirrored at b → AreUncut (ms ++ m ∷ []) → a.taken.n + 3618 * length (ms ++ m ∷ []) < 18446744073709551615
        → AreWithin mirror (ms ++ m ∷ []) (xs ++ (reply, b) ∷ []) a
        → AreWithin of_file (ms ++ m ∷ []) (over_files xs ++ (reply, file_disk b) ∷ []) (file_disk a)
    within_last s [] [] a t at m reply b chain x uncut few each =
        let one : IsWithin mirror m a b = each.0 uncut.0 in
        let most : b.taken.n ≤ a.taken.n + 3618 = one.most in
        let step : IsMirrored a b = subst (λ (d : KeptMirror F G). IsMirrored d b) chain.1 x in
        (λ _. within_one m a b one (step.counted (omega (arith, most, few))), tt)
    within_last s [] (y ∷ ys) a t at m reply b chain x uncut few each = absurd chain
    within_last s (n ∷ ms) [] a t at m reply b chain x uncut few each = absurd chain
    within_last s (n ∷ ms) (y ∷ ys) a t at m reply b chain x uncut few each =
        let one : IsWithin mirror n a y.1 = each.0 uncut.0 in
        let most : y.1.taken.n ≤ a.taken.n + 3618 = one.most in (
          λ _. within_one n a y.1 one (chain.0.moments.reached.counted (omega (arith, most, few))),
          within_last (with_state s (after_all (start_of s) s.state chain.0.counted)) ms ys y.1 t at m reply b chain.1
              x uncut.1 (omega (arith, most, few)) each.1,
        )

    module _ (untaken : start.taken.n ≡ 0) where
      -- few writes from the start on
      pub changes_of_file : (b : KeptMirror F G) (n : ℕ) (P : Image → Type 0) → n < 1000 → Changes mirror start b n P
          → Changes of_file (file_disk start) (file_disk b) n P
      changes_of_file b n P few x = record {
        held = held_by_file start.file start b P x.held;
        writes =
            let taken : b.taken.n ≤ start.taken.n + n = x.writes in
            omega (arith, taken, untaken, x.held.reached.counted (omega (arith, taken, untaken, few)));
      }

      -- of so few messages the mirror's count is exact
      pub bounded_of_file : (ms : List Message) (b : KeptMirror F G) → IsMirrored start b → AreFew ms
          → IsBounded mirror ms start b → IsBounded of_file ms (file_disk start) (file_disk b)
      bounded_of_file ms b x few bound =
          let taken : b.taken.n ≤ start.taken.n + most_of_run (length ms) = bound in
          omega (arith, taken, untaken, x.counted (omega (arith, taken, untaken, few)))

      pub quiet_of_file : (s : Shop) (ms : List Message) (b : KeptMirror F G) → IsQuiet mirror s ms start b
          → IsQuiet of_file s ms (file_disk start) (file_disk b)
      quiet_of_file s ms b q = record {
        shop = held_by_file start.file start b _ q.shop;
        rests = λ rests. held_by_file start.file start b _ (q.rests rests);
        opening = λ uncut. changes_of_file b 952 _ (omega arith) (q.opening uncut);
        unwritten = λ uncut rests. changes_of_file b 0 _ (omega arith) (q.unwritten uncut rests);
      }

      pub spared_of_file : (s : Shop) (b : KeptMirror F G) → IsMirrored start b → IsSpared mirror s start b
          → IsSpared of_file s (file_disk start) (file_disk b)
      spared_of_file s b x q = record {
        opening =
            let taken : b.taken.n ≤ start.taken.n + 952 = q.opening in
            omega (arith, taken, untaken, x.counted (omega (arith, taken, untaken)));
        rests = λ rests.
            let taken : b.taken.n ≤ start.taken.n = q.rests rests in
            omega (arith, taken, untaken, x.counted (omega (arith, taken, untaken)));
      }

      abbrev pub run_of_file : (s : Shop) (ms : List Message) (xs : List (Reply × KeptMirror F G)) (b : KeptMirror F G)
          → HasRun mirror s ms xs start b → HasRun of_file s ms (over_files xs) (file_disk start) (file_disk b)
      run_of_file s ms xs b run = record {
        first = file_disk run.first;
        opening = changes_of_file run.first 952 _ (omega arith) run.opening;
        quiet = λ rests. changes_of_file run.first 0 _ (omega arith) (run.quiet rests);
        unfailed = unfailed_file start.file start run.first run.opening.held.reached run.unfailed;
        rests = run.rests;
        now = run.now;
        chain = chain_of_file s ms xs run.first run.now b run.opening.held.reached run.chain;
      }

      abbrev pub failing_of_file : (s : Shop) (ms : List Message) (xs : List (Reply × KeptMirror F G)) (last : Reply)
          (b : KeptMirror F G) → HasRunToFailure mirror s ms xs last start b
          → HasRunToFailure of_file s ms (over_files xs) last (file_disk start) (file_disk b)
      failing_of_file s ms xs last b run = record {
        before = run.before;
        message = run.message;
        parts = run.parts;
        at = file_disk run.at;
        run = run_of_file s run.before xs run.at run.run;
        failed = event_of_file run.run.now run.message run.at b _ _ (ends_failed run.run.now run.message last b)
            (chain_reached s run.before xs run.run.first run.run.now run.at run.run.opening.held.reached run.run.chain)
            run.failed;
      }

      pub within_run : (s : Shop) (ms : List Message) (xs : List (Reply × KeptMirror F G)) (b : KeptMirror F G)
          (r : HasRun mirror s ms xs start b) → AreFew ms → AreUncut ms → AreWithin mirror ms xs r.first
          → AreWithin of_file ms (over_files xs) (file_disk r.first)
      within_run s ms xs b r few uncut each =
          let opened : r.first.taken.n ≤ start.taken.n + 952 = r.opening.writes in
          within_on s ms xs r.first r.now b r.chain uncut (omega (arith, opened, untaken, few)) each

      pub within_failing : (s : Shop) (ms : List Message) (xs : List (Reply × KeptMirror F G)) (last : Reply)
          (b : KeptMirror F G) (f : HasRunToFailure mirror s ms xs last start b) → AreFew ms → AreUncut ms
          → AreWithin mirror ms (xs ++ (last, b) ∷ []) f.run.first
          → AreWithin of_file ms (over_files xs ++ (last, file_disk b) ∷ []) (file_disk f.run.first)
      within_failing s ms xs last b f few uncut each =
          let r = f.run in
          let opened : r.first.taken.n ≤ start.taken.n + 952 = r.opening.writes in
          let long : length (f.before ++ f.message ∷ []) ≡ length ms = ap length f.parts in
          subst (λ all. AreWithin of_file all (over_files xs ++ (last, file_disk b) ∷ []) (file_disk r.first)) f.parts
          (within_last s f.before xs r.first r.now f.at f.message last b r.chain f.failed.moments.reached
          (subst (λ all. AreUncut all) (sym f.parts) uncut) (omega (arith, opened, untaken, few, long))
          (subst (λ all. AreWithin mirror all (xs ++ (last, b) ∷ []) r.first) (sym f.parts) each))
