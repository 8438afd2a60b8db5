-- A shop that is served over a log, and a batch more.
use Rattle.std.proofs.Common.{◌≡◌, ◌⊎◌, ◌≤◌, ◌∙◌, ℕ, List, [], ◌∷◌, ◌++◌, Result, ap, append-nil, append_assoc}
use Rattle.std.proofs.Common.{arith, inl, inr, length, refl, subst, sym, ⊎_elim}
use Rattle.std.specs.Prelude.{slice_index_or}
use Rattle.std.proofs.KnownBytes.{Consumes-trans}
use Rattle.std.specs.Io.KnownBytes.{Consumes}
use Rattle.std.proofs.lemmas.List.{length-append, length-map}
use Rattle.d64_image.specs.Images.{Image}
use Rattle.d64_image.specs.Memory.{disk_image}
use Rattle.d64_image.specs.declared.mem_disk.MemDisk.{MemDisk}
use Rattle.disk_layout.specs.Whole.{IsWhole}
use Rattle.request_cards.specs.Ledgers.{replies}
use Rattle.line_text.specs.scripts.Lines.{lines}
use Rattle.host_session.specs.declared.events.sources.Next.{Next}
use Rattle.host_session.specs.declared.runs.event_loop.LoopFault.{LoopFault}
use Rattle.host_session.specs.runs.Chains.{told_in}
use Rattle.host_session.specs.session.Handling.{after_of}
use Rattle.host_session.specs.session.Standing.{View}
use Rattle.host_session.specs.shop.Shop.{IsSettled, IsShop, Shop, start_of}
use Rattle.line_server.proofs.Cuts.{lines_two, whole_two}
use Rattle.line_server.specs.Batches.{BatchInput, IsBatchTaken}
use Rattle.line_server.specs.Read.{AreWhole}
use Rattle.image_log.specs.ImageLogs.{IsEither, LeavesImages, LogHistory}
use Rattle.image_log.specs.Marks.{Covers}
use Rattle.image_log.specs.Touched.{touched_of}
use Rattle.line_server.specs.logged.Batches.{Holds, IsBatchServed, IsKeptNow, IsUnderWay}
use Rattle.line_server.specs.logged.Handling.{AskNone, IsAtRest, replies_after}
use Rattle.line_server.specs.logged.Memory.{Memory, image_of}
use Rattle.line_server.specs.logged.Reporting.{LogOutput, over_log}
use Rattle.line_server.specs.logged.Serves.{HoldsFirst, IsSafe, StayFrom, shop_behind}
use Rattle.line_server.proofs.lemmas.logged.Leaving.{goes_on}
use Rattle.line_server.proofs.lemmas.logged.Lines.{behind_more, none_first, none_last, replies_more, same_after, same_none, same_replies}
use Rattle.line_server.proofs.lemmas.logged.Staying.{Around, either_first, more_lines, stay_append, stay_new, stay_on}

-- a reply for each line
pub as_many : (s : Shop) (ls : List (List ℕ)) → length (replies_after s ls) ≡ length ls
as_many s [] = refl
as_many s (l ∷ ls) = omega (arith, as_many (after_of s l) ls)

pub as_many_replies : (s : Shop) (ls : List (List ℕ)) → length (replies (start_of s) [] ls) ≡ length ls
as_many_replies s ls =
    ap length (replies_more s [] ls) ∙ as_many (shop_behind s []) ls

module _ {L R T : Type 0} (h : LogHistory L) (i : BatchInput R) (o : LogOutput L T) (disk : MemDisk) (old : L)
    (old_in : R) (old_out : T) where
  module _ (session : View Memory) (kept : Image) (log : L) (input : R) (out : T)
      (u : IsUnderWay h i o disk old old_in old_out [] session kept log input out)
      (new_in : R) (texts : List (List ℕ)) (said : Next)
      (b : IsBatchTaken (i.remaining input) (i.remaining new_in) texts said)
      (after : View Memory) (new_kept : Image) (now : L) (told : T) (result : Result Unit LoopFault)
      (x : IsBatchServed h o texts session after kept new_kept log now out told result) where
    -- all lines up to here
    abbrev pub All : List ℕ
    All = u.handled ++ b.handled

    pub all_whole : AreWhole All
    all_whole = whole_two u.handled b.handled u.whole b.whole

    pub lines_are : lines All ≡ lines u.handled ++ lines b.handled
    lines_are = lines_two u.handled b.handled u.whole

    pub all_read : Consumes (i.remaining old_in) (i.remaining new_in) (All ++ b.rest)
    all_read = subst (Consumes (i.remaining old_in) (i.remaining new_in)) (sym (append_assoc u.handled b.handled b.rest))
        (Consumes-trans (i.remaining old_in) (i.remaining input) (i.remaining new_in) u.handled (b.handled ++ b.rest)
        (subst (Consumes (i.remaining old_in) (i.remaining input)) (append-nil u.handled) u.read) b.read)

    -- no more than one batch
    pub few : length x.replies ≤ length texts → length x.replies ≤ 512
    few le = omega (arith, le, b.most)

    module _ (s : Shop) (shop : IsShop (disk_image disk) s) where
      abbrev Was : Holds h s (disk_image disk) (lines u.handled) u.turns old log session
      Was = u.holds s shop

      abbrev Behind : Shop
      Behind = shop_behind s (lines u.handled)

      replies_now : x.replies ≡ replies_after Behind (lines b.handled)
      replies_now = (x.handled.told Behind Was.rests).0 ∙ same_replies Behind texts (lines b.handled) b.same

      pub rests_now : IsAtRest after (shop_behind s (lines u.handled ++ lines b.handled))
      rests_now = subst (λ t. IsAtRest after t)
          (same_after Behind texts (lines b.handled) b.same ∙ behind_more s (lines u.handled) (lines b.handled))
          (x.handled.told Behind Was.rests).1

      pub covers_now : Covers (touched_of after.disk) kept (image_of after.disk)
      covers_now = x.handled.marks Behind Was.rests kept
          (λ index low untouched. ap (λ (image : Image). slice_index_or image index []) u.kept_is)

      pub around : Around s (lines u.handled) (lines b.handled) kept (image_of after.disk)
      around = record {
        at_first = subst (λ (image : Image). IsSettled image Behind) (sym u.kept_is) Was.rests.rests;
        at_last = rests_now.rests;
      }

      pub told_are : told_in u.turns ++ x.replies ≡ replies (start_of s) [] (lines All)
      told_are = ap (λ rs. told_in u.turns ++ rs) replies_now
          ∙ ap (λ rs. rs ++ replies_after Behind (lines b.handled)) Was.replies_are
          ∙ sym (replies_more s (lines u.handled) (lines b.handled))
          ∙ ap (λ ls. replies (start_of s) [] ls) (sym lines_are)

      pub not_many : length x.replies ≤ 512
      not_many = few (omega (arith, ap length (x.handled.told Behind Was.rests).0, as_many Behind texts))

      pub files_now : IsWhole (disk_image disk) → IsWhole (image_of after.disk)
      files_now whole = x.handled.files Behind Was.rests (Was.files whole)

      turns_fit : length u.turns ≡ length (lines u.handled)
      turns_fit = sym (length-map u.turns (λ t. t.0)) ∙ ap length Was.replies_are ∙ as_many_replies s (lines u.handled)

      module _ (stood : h.stands_for old (disk_image disk)) where
        stands_before : h.stands_for log kept
        stands_before = subst (h.stands_for log) (sym u.kept_is) (Was.stands stood)

        leaves : LeavesImages h log now (IsEither kept (image_of after.disk))
        leaves = x.any_moment stands_before covers_now

        abbrev Both : List (List ℕ)
        Both = lines u.handled ++ lines b.handled

        any_moment_now : LeavesImages h old now (λ c. (c ≡ disk_image disk) ⊎ HoldsFirst s Both 0 c)
        any_moment_now = goes_on h old log now (λ c. (c ≡ disk_image disk) ⊎ HoldsFirst s (lines u.handled) 0 c)
            (IsEither kept (image_of after.disk)) (λ c. (c ≡ disk_image disk) ⊎ HoldsFirst s Both 0 c)
            (Was.safe stood).any_moment leaves
            (λ c p. ⊎_elim (λ e. inl e) (λ q. inr (more_lines s (lines u.handled) (lines b.handled) 0 c q)) p)
            (λ c either. inr (either_first h s (lines u.handled) (lines b.handled) kept (image_of after.disk) around 0
            (omega arith) c either))

        files_leave : IsWhole (disk_image disk) → LeavesImages h old now IsWhole
        files_leave whole = goes_on h old log now IsWhole (IsEither kept (image_of after.disk)) IsWhole
            ((Was.safe stood).files whole) leaves (λ c was. was)
            (λ c either. ⊎_elim (λ e. subst IsWhole (sym (e ∙ u.kept_is)) (Was.files whole))
            (λ e. subst IsWhole (sym e) (files_now whole)) either)

        stay_now : StayFrom h s Both 0 u.turns now
        stay_now = stay_on h s (lines u.handled) (lines b.handled) kept (image_of after.disk) around log now 0 u.turns
            (omega (arith, turns_fit)) (Was.safe stood).told_stays leaves

        -- as no reply more is told
        pub safe_untold : IsSafe h s (disk_image disk) (lines All) u.turns old now
        safe_untold = subst (λ (ls : List (List ℕ)). IsSafe h s (disk_image disk) ls u.turns old now) (sym lines_are)
            (record { any_moment = any_moment_now; files = files_leave; told_stays = stay_now })

        -- as all are
        module _ (committed : IsKeptNow h after.disk kept new_kept log now) where
          pub stands_now : h.stands_for now (image_of after.disk)
          stands_now = (committed covers_now).1 stands_before

          pub safe_told : IsSafe h s (disk_image disk) (lines All) (u.turns ++ over_log now x.replies) old now
          safe_told = subst (λ (ls : List (List ℕ)).
              IsSafe h s (disk_image disk) ls (u.turns ++ over_log now x.replies) old now) (sym lines_are) (record {
                any_moment = any_moment_now;
                files = files_leave;
                told_stays = stay_append h s Both now 0 (length u.turns) u.turns (over_log now x.replies)
                    (omega arith) stay_now
                    (stay_new h s (lines u.handled) (lines b.handled) kept (image_of after.disk) around now
                    (length u.turns) x.replies
                    (omega (
                      arith,
                      turns_fit,
                      ap length replies_now,
                      as_many Behind (lines b.handled),
                      length-append (lines u.handled) (lines b.handled),
                    )) stands_now);
              })

    -- nothing is asked of the log
    pub quiet_now : (s : Shop) → IsSettled (disk_image disk) s → AskNone s (lines All)
        → (now ≡ old) × (disk_image disk ≡ image_of after.disk)
    quiet_now s settled none =
        let both = subst (AskNone s) lines_are none in
        let was = u.quiet s settled (none_first s (lines u.handled) (lines b.handled) both) in
        let shop : IsShop (disk_image disk) s = settled.shop in
        let rests : IsAtRest session s = record {
          alive = (u.holds s shop).rests.alive;
          rests = subst (λ (image : Image). IsSettled image s) was.1 settled;
        } in
        let same : after ≡ session = x.handled.quiet s rests
        (same_none s texts (lines b.handled) b.same (none_last s (lines u.handled) (lines b.handled) both)) in
        let image : image_of session.disk ≡ image_of after.disk = ap (λ (v : View Memory). image_of v.disk) (sym same) in
        (x.quiet (u.kept_is ∙ image) ∙ was.0, was.1 ∙ image)
