-- The survey, the map, and what is given back.
use Rattle.std.proofs.Common.{Err, List, Ok, ap, subst, ◌∙◌, ℕ}
use Rattle.std.proofs.lemmas.Result.{err_from_is_err_and}
use Rattle.d64_image.specs.Calls.{ReadsSector, WritesSector}
use Rattle.d64_image.specs.declared.place.Place.{Place}
use Rattle.disk_layout.proofs.lemmas.layouts.Layouts.{IsLayout-one}
use Rattle.disk_layout.specs.Layout.{Layout}
use Rattle.disk_layout.specs.declared.faults.Fault.TheVariants.{Device}
use Rattle.file_changes.proofs.FreeCalls.{map-unread, map-written}
use Rattle.file_changes.specs.Frees.{IsFreedMap, IsLeft}
use Rattle.layout_check.specs.Survey.{IsSurveyOf}
use Rattle.file_changes.proofs.freeing.free_left.Goals as goal

pub returns-in_err-read_sector : goal.returns-in_err-read_sector
returns-in_err-read_sector g c l m one two =
    let S = g.D.Sectors.history in
    let p = err_from_is_err_and c.from_residual-in_err-read_sector.result
    c.from_residual-in_err-read_sector.ensures.1 in
    let P : Place → Type 0 = λ x. ReadsSector {T = Unit {0}} S c.survey.new.disk c.read_sector.new.disk x
    c.read_sector.new.to (Device x) (Err c.in_err-read_sector.field-0.0) in
    rw (p.1 ∙ ap Err p.2) (map-unread S c.args.disk.now c.survey.new.disk c.read_sector.new.disk l m
    c.in_ok-after.ensures.reads c.in_ok-after.ensures.failures c.read_sector.new.to c.in_err-read_sector.field-0.0
    (subst P c.map_place.ensures c.in_err-read_sector.ensures))

pub returns : goal.returns
returns g c l m one two =
    let S = g.D.Sectors.history in
    let (k, is, of, few) = c.in_ok-after.ensures.ok in
    let P : Place → Type 0 = λ x. ReadsSector {T = Unit {0}} S c.survey.new.disk c.read_sector.new.disk x
    c.read_sector.new.to (Device x) (Ok c.in_ok-read_sector.field-0) in
    let Q : Place → Type 0 = λ x. WritesSector S c.read_sector.new.disk c.write_sector.new.disk x
    c.give_all_left.new.map.bytes (Device x) c.write_sector.result in
    let R : Layout → Type 0 = λ x. IsSurveyOf x c.in_ok-after.after in
    map-written S c.args.disk.now c.survey.new.disk c.read_sector.new.disk l m
    c.in_ok-after.ensures.reads c.in_ok-after.ensures.failures c.read_sector.new.to c.write_sector.new.disk
    c.give_all_left.new.map.bytes c.in_ok-read_sector.field-0 c.write_sector.result
    (subst P c.map_place.ensures c.in_ok-read_sector.ensures)
    (subst (λ (x : List ℕ). IsFreedMap x c.give_all_left.new.map.bytes (IsLeft l m)) c.new-map.ensures
    (c.give_all_left.ensures l m one (subst R (IsLayout-one (S.image c.args.disk.now) k m is two) of)))
    (subst Q c.map_place-2.ensures c.write_sector.ensures)
