-- What a command does not touch has no fault.
use Rattle.std.proofs.Common.{◌≡◌, refl, subst, sym}
use Rattle.term_index.specs.declared.command_line.Command.{Command}
use Rattle.term_index.specs.declared.outcome.Outcome.TheVariants.{InputTooLong, InFault, StoreFault, ReadFault, OutFault}
use Rattle.term_index.specs.Commands.{build, search, ask, LooksIntoFile}
use Rattle.term_index.specs.Shown.{shown}
use Rattle.owned_bytes.proofs.FileReads.{leaves-none}
use Rattle.term_index.proofs.Possible.{command_never, unmoved}
use Rattle.term_index.proofs.running.obey.Goals as goal

pub returns-in-Build-clause-file : goal.returns-in-Build-clause-file
returns-in-Build-clause-file g c = leaves-none _ _ (command_never c.build.result ReadFault _ (g.H.FileHandle.state c.args.file.now) (build c.in-Build.path.now c.in-Build.pages) c.build.ensures.ends refl)

pub returns-in-Build-clause-out_fault : goal.returns-in-Build-clause-out_fault
returns-in-Build-clause-out_fault g c = unmoved _ _ (command_never c.build.result OutFault _ (g.H.FileHandle.state c.args.file.now) (build c.in-Build.path.now c.in-Build.pages) c.build.ensures.ends refl)

pub returns-in-Search-clause-too_long : goal.returns-in-Search-clause-too_long
returns-in-Search-clause-too_long g c = λ is. absurd (command_never c.search.result InputTooLong (g.S.Source.left c.args.docs.now) _ (search c.in-Search.path.now c.in-Search.field.now c.in-Search.query.now) c.search.ensures.ends refl is)

pub returns-in-Search-clause-in_fault : goal.returns-in-Search-clause-in_fault
returns-in-Search-clause-in_fault g c = unmoved _ _ (command_never c.search.result InFault (g.S.Source.left c.args.docs.now) _ (search c.in-Search.path.now c.in-Search.field.now c.in-Search.query.now) c.search.ensures.ends refl)

pub returns-in-Search-clause-store_fault : goal.returns-in-Search-clause-store_fault
returns-in-Search-clause-store_fault g c = unmoved _ _ (command_never c.search.result StoreFault (g.S.Source.left c.args.docs.now) _ (search c.in-Search.path.now c.in-Search.field.now c.in-Search.query.now) c.search.ensures.ends refl)

pub returns-in-Search-clause-file_stays : goal.returns-in-Search-clause-file_stays
returns-in-Search-clause-file_stays g c =
    subst (λ (command : Command). ¬ LooksIntoFile (shown command) → c.search.new.file ≡ c.args.file.now) (sym c.in-Search.is) c.search.ensures.file_stays

pub returns-in-Ask-clause-store_fault : goal.returns-in-Ask-clause-store_fault
returns-in-Ask-clause-store_fault g c = unmoved _ _ (command_never c.ask.result StoreFault _ (g.H.FileHandle.state c.args.file.now) (ask c.in-Ask.field.now c.in-Ask.query.now) c.ask.ensures.ends refl)

pub returns-in-Ask-clause-file : goal.returns-in-Ask-clause-file
returns-in-Ask-clause-file g c = leaves-none _ _ (command_never c.ask.result ReadFault _ (g.H.FileHandle.state c.args.file.now) (ask c.in-Ask.field.now c.in-Ask.query.now) c.ask.ensures.ends refl)
