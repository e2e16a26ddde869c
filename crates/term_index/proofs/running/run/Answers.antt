-- The words are the command that was read, so what it does is what the clauses say.
use Rattle.std.proofs.Common.{◌≡◌, false, refl}
use Rattle.term_index.specs.declared.outcome.Outcome.TheVariants.{Usage}
use Rattle.term_index.specs.Commands.{Command, build, search, ask, tree, generate, reads_documents, writes_store, prints}
use Rattle.term_index.specs.Shown.{shown}
use Rattle.term_index.proofs.OneCommand.{of_words, unless}
use Rattle.term_index.proofs.Possible.{may, command_never}
use Rattle.term_index.proofs.Headlines.{built, found}
use Rattle.term_index.proofs.running.run.Goals as goal

never_usage : (command : Command) → may command Usage ≡ false
never_usage (build path pages) = refl
never_usage (search path field query) = refl
never_usage (ask field query) = refl
never_usage (tree query) = refl
never_usage (generate seed count) = refl

pub obey-requires : goal.obey-requires
obey-requires g c = c.in-Some.ensures.allowed

pub returns-clause-built : goal.returns-clause-built
returns-clause-built g c = λ is. of_words _ (shown c.in-Some.command) _ c.in-Some.ensures (built c.obey.result _ _ _ (shown c.in-Some.command) c.obey.ensures.store is)

pub returns-clause-found : goal.returns-clause-found
returns-clause-found g c = λ is. of_words _ (shown c.in-Some.command) _ c.in-Some.ensures (found c.obey.result (g.S.Source.left c.args.docs.now) (g.H.FileHandle.state c.args.file.now) _ _ (shown c.in-Some.command) c.obey.ensures.output is)

pub returns-clause-usage : goal.returns-clause-usage
returns-clause-usage g c = (
  λ is. absurd (command_never c.obey.result Usage _ _ (shown c.in-Some.command) c.obey.ensures.ends (never_usage (shown c.in-Some.command)) is),
  λ none. absurd (none (shown c.in-Some.command) c.in-Some.ensures),
)

pub returns-clause-ends : goal.returns-clause-ends
returns-clause-ends g c = of_words _ (shown c.in-Some.command) _ c.in-Some.ensures c.obey.ensures.ends

pub returns-clause-store : goal.returns-clause-store
returns-clause-store g c = of_words _ (shown c.in-Some.command) _ c.in-Some.ensures c.obey.ensures.store

pub returns-clause-output : goal.returns-clause-output
returns-clause-output g c = of_words _ (shown c.in-Some.command) _ c.in-Some.ensures c.obey.ensures.output

pub returns-clause-read_whole : goal.returns-clause-read_whole
returns-clause-read_whole g c = of_words _ (shown c.in-Some.command) _ c.in-Some.ensures c.obey.ensures.read_whole

pub returns-clause-reads : goal.returns-clause-reads
returns-clause-reads g c = of_words _ (shown c.in-Some.command) _ c.in-Some.ensures c.obey.ensures.reads

pub returns-clause-fetches : goal.returns-clause-fetches
returns-clause-fetches g c = of_words _ (shown c.in-Some.command) _ c.in-Some.ensures c.obey.ensures.fetches

pub returns-clause-docs_stay : goal.returns-clause-docs_stay
returns-clause-docs_stay g c = λ none. unless (reads_documents (shown c.in-Some.command)) _ c.obey.ensures.docs_stay (λ reads. none (shown c.in-Some.command, c.in-Some.ensures, reads))

pub returns-clause-file_stays : goal.returns-clause-file_stays
returns-clause-file_stays g c = λ none. c.obey.ensures.file_stays (λ looks. none (shown c.in-Some.command, c.in-Some.ensures, looks))

pub returns-clause-store_stays : goal.returns-clause-store_stays
returns-clause-store_stays g c = λ none. unless (writes_store (shown c.in-Some.command)) _ c.obey.ensures.store_stays (λ writes. none (shown c.in-Some.command, c.in-Some.ensures, writes))

pub returns-clause-out_stays : goal.returns-clause-out_stays
returns-clause-out_stays g c = λ none. unless (prints (shown c.in-Some.command)) _ c.obey.ensures.out_stays (λ printed. none (shown c.in-Some.command, c.in-Some.ensures, printed))
