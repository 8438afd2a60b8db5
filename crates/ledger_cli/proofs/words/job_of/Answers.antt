-- What the subcommand that was met asks for is what the words ask for.
use Rattle.ledger_cli.proofs.Parses.{read-met}
use Rattle.ledger_cli.proofs.words.job_of.Goals as goal

pub returns-in-format : goal.returns-in-format
returns-in-format c = read-met c.parsed_subcommand.result _ c.in-Some.name c.in-Some.found _ c.format_job.result
    c.parsed_subcommand.ensures c.in-Some.is c.in-format.is c.format_job.ensures

pub returns-in-list : goal.returns-in-list
returns-in-list c = read-met c.parsed_subcommand.result _ c.in-Some.name c.in-Some.found _ c.list_job.result
    c.parsed_subcommand.ensures c.in-Some.is c.in-list.is c.list_job.ensures

pub returns-in-check : goal.returns-in-check
returns-in-check c = read-met c.parsed_subcommand.result _ c.in-Some.name c.in-Some.found _ c.check_job.result
    c.parsed_subcommand.ensures c.in-Some.is c.in-check.is c.check_job.ensures

pub returns-in-plan : goal.returns-in-plan
returns-in-plan c = read-met c.parsed_subcommand.result _ c.in-Some.name c.in-Some.found _ c.plan_job.result
    c.parsed_subcommand.ensures c.in-Some.is c.in-plan.is c.plan_job.ensures

pub returns-in-show : goal.returns-in-show
returns-in-show c = read-met c.parsed_subcommand.result _ c.in-Some.name c.in-Some.found _ c.show_job.result
    c.parsed_subcommand.ensures c.in-Some.is c.in-show.is c.show_job.ensures

pub returns-in-play : goal.returns-in-play
returns-in-play c = read-met c.parsed_subcommand.result _ c.in-Some.name c.in-Some.found _ c.play_job.result
    c.parsed_subcommand.ensures c.in-Some.is c.in-play.is c.play_job.ensures

pub returns-in-serve : goal.returns-in-serve
returns-in-serve c = read-met c.parsed_subcommand.result _ c.in-Some.name c.in-Some.found _ c.serve_job.result
    c.parsed_subcommand.ensures c.in-Some.is c.in-serve.is c.serve_job.ensures

pub returns-in-copy : goal.returns-in-copy
returns-in-copy c = read-met c.parsed_subcommand.result _ c.in-Some.name c.in-Some.found _ c.copy_job.result
    c.parsed_subcommand.ensures c.in-Some.is c.in-copy.is c.copy_job.ensures

pub returns-in-extract : goal.returns-in-extract
returns-in-extract c = read-met c.parsed_subcommand.result _ c.in-Some.name c.in-Some.found _ c.extract_job.result
    c.parsed_subcommand.ensures c.in-Some.is c.in-extract.is c.extract_job.ensures

pub returns-in-repair : goal.returns-in-repair
returns-in-repair c = read-met c.parsed_subcommand.result _ c.in-Some.name c.in-Some.found _ c.repair_job.result
    c.parsed_subcommand.ensures c.in-Some.is c.in-repair.is c.repair_job.ensures

pub returns-in-records : goal.returns-in-records
returns-in-records c = read-met c.parsed_subcommand.result _ c.in-Some.name c.in-Some.found _ c.records_job.result
    c.parsed_subcommand.ensures c.in-Some.is c.in-records.is c.records_job.ensures

pub returns-in-bytes : goal.returns-in-bytes
returns-in-bytes c = read-met c.parsed_subcommand.result _ c.in-Some.name c.in-Some.found _ c.bytes_job.result
    c.parsed_subcommand.ensures c.in-Some.is c.in-bytes.is c.bytes_job.ensures

pub returns-in-basic : goal.returns-in-basic
returns-in-basic c = read-met c.parsed_subcommand.result _ c.in-Some.name c.in-Some.found _ c.basic_job.result
    c.parsed_subcommand.ensures c.in-Some.is c.in-basic.is c.basic_job.ensures

pub returns-in-make : goal.returns-in-make
returns-in-make c = read-met c.parsed_subcommand.result _ c.in-Some.name c.in-Some.found _ c.make_job.result
    c.parsed_subcommand.ensures c.in-Some.is c.in-make.is c.make_job.ensures

pub returns-in-store : goal.returns-in-store
returns-in-store c = read-met c.parsed_subcommand.result _ c.in-Some.name c.in-Some.found _ c.store_job.result
    c.parsed_subcommand.ensures c.in-Some.is c.in-store.is c.store_job.ensures

pub returns-in-put : goal.returns-in-put
returns-in-put c = read-met c.parsed_subcommand.result _ c.in-Some.name c.in-Some.found _ c.put_job.result
    c.parsed_subcommand.ensures c.in-Some.is c.in-put.is c.put_job.ensures

pub returns-in-rename : goal.returns-in-rename
returns-in-rename c = read-met c.parsed_subcommand.result _ c.in-Some.name c.in-Some.found _ c.rename_job.result
    c.parsed_subcommand.ensures c.in-Some.is c.in-rename.is c.rename_job.ensures

pub returns-in-title : goal.returns-in-title
returns-in-title c = read-met c.parsed_subcommand.result _ c.in-Some.name c.in-Some.found _ c.title_job.result
    c.parsed_subcommand.ensures c.in-Some.is c.in-title.is c.title_job.ensures

pub returns-in-lock : goal.returns-in-lock
returns-in-lock c = read-met c.parsed_subcommand.result _ c.in-Some.name c.in-Some.found _ c.lock_job.result
    c.parsed_subcommand.ensures c.in-Some.is c.in-lock.is c.lock_job.ensures

pub returns-in-unlock : goal.returns-in-unlock
returns-in-unlock c = read-met c.parsed_subcommand.result _ c.in-Some.name c.in-Some.found _ c.lock_job-in-unlock.result
    c.parsed_subcommand.ensures c.in-Some.is c.in-unlock.is c.lock_job-in-unlock.ensures

pub returns-in-delete : goal.returns-in-delete
returns-in-delete c = read-met c.parsed_subcommand.result _ c.in-Some.name c.in-Some.found _ c.delete_job.result
    c.parsed_subcommand.ensures c.in-Some.is c.in-delete.is c.delete_job.ensures

pub returns-in-undelete : goal.returns-in-undelete
returns-in-undelete c = read-met c.parsed_subcommand.result _ c.in-Some.name c.in-Some.found _ c.undelete_job.result
    c.parsed_subcommand.ensures c.in-Some.is c.in-undelete.is c.undelete_job.ensures

pub returns-in-sort : goal.returns-in-sort
returns-in-sort c = read-met c.parsed_subcommand.result _ c.in-Some.name c.in-Some.found _ c.sort_job.result
    c.parsed_subcommand.ensures c.in-Some.is c.in-sort.is c.sort_job.ensures

pub returns-in-new : goal.returns-in-new
returns-in-new c = read-met c.parsed_subcommand.result _ c.in-Some.name c.in-Some.found _ c.new_job.result
    c.parsed_subcommand.ensures c.in-Some.is c.in-new.is c.new_job.ensures

pub returns-in-map : goal.returns-in-map
returns-in-map c = read-met c.parsed_subcommand.result _ c.in-Some.name c.in-Some.found _ c.map_job.result
    c.parsed_subcommand.ensures c.in-Some.is c.in-map.is c.map_job.ensures

pub returns-in-picture : goal.returns-in-picture
returns-in-picture c = read-met c.parsed_subcommand.result _ c.in-Some.name c.in-Some.found _ c.picture_job.result
    c.parsed_subcommand.ensures c.in-Some.is c.in-picture.is c.picture_job.ensures

pub returns-in-dry : goal.returns-in-dry
returns-in-dry c = read-met c.parsed_subcommand.result _ c.in-Some.name c.in-Some.found _ c.dry_job.result
    c.parsed_subcommand.ensures c.in-Some.is c.in-dry.is c.dry_job.ensures

pub returns-in-free : goal.returns-in-free
returns-in-free c = read-met c.parsed_subcommand.result _ c.in-Some.name c.in-Some.found _ c.free_job.result
    c.parsed_subcommand.ensures c.in-Some.is c.in-free.is c.free_job.ensures

pub returns-in-sector : goal.returns-in-sector
returns-in-sector c = read-met c.parsed_subcommand.result _ c.in-Some.name c.in-Some.found _ c.sector_job.result
    c.parsed_subcommand.ensures c.in-Some.is c.in-sector.is c.sector_job.ensures

pub returns-in-trim : goal.returns-in-trim
returns-in-trim c = read-met c.parsed_subcommand.result _ c.in-Some.name c.in-Some.found _ c.trim_job.result
    c.parsed_subcommand.ensures c.in-Some.is c.in-trim.is c.trim_job.ensures
