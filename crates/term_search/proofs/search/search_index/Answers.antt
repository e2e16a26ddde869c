use Rattle.term_search.proofs.Answering.{printed_refused, printed_answered, answers_told, reads_for}
use Rattle.term_search.proofs.Costs.{fetches_query}
use Rattle.term_search.proofs.search.search_index.Goals as goal

pub returns-in-Err-clause-printed : goal.returns-in-Err-clause-printed
returns-in-Err-clause-printed g c = printed_refused c.args.query.now c.in-Err.error c.utf8.query c.in-Err.ensures

pub returns-in-Ok-find_numbers-clause-told : goal.returns-in-Ok-find_numbers-clause-told
returns-in-Ok-find_numbers-clause-told g c = answers_told _ c.args.query.now c.args.default_field.now c.in-Ok-find_numbers.ids c.in-Ok.tree c.utf8.query c.in-Ok.ensures c.in-Ok-find_numbers.ensures.told

pub returns-in-Ok-find_numbers-clause-printed : goal.returns-in-Ok-find_numbers-clause-printed
returns-in-Ok-find_numbers-clause-printed g c = printed_answered c.args.query.now c.in-Ok-find_numbers.ids c.in-Ok.tree c.utf8.query c.in-Ok.ensures

pub returns-in-Ok-find_numbers-clause-reads : goal.returns-in-Ok-find_numbers-clause-reads
returns-in-Ok-find_numbers-clause-reads g c = reads_for c.args.query.now c.args.default_field.now c.in-Ok.tree _ _ c.in-Ok.ensures c.find_numbers.ensures.reads

pub returns-in-Err-find_numbers-clause-reads : goal.returns-in-Err-find_numbers-clause-reads
returns-in-Err-find_numbers-clause-reads g c = reads_for c.args.query.now c.args.default_field.now c.in-Ok.tree _ _ c.in-Ok.ensures c.find_numbers.ensures.reads

pub returns-in-Ok-find_numbers-clause-fetched : goal.returns-in-Ok-find_numbers-clause-fetched
returns-in-Ok-find_numbers-clause-fetched g c = fetches_query c.args.query.now c.args.default_field.now c.in-Ok.tree (g.H.FileHandle.state c.args.file.now) (g.H.FileHandle.state c.find_numbers.new.file) c.in-Ok.ensures c.find_numbers.ensures.fetched

pub returns-in-Err-find_numbers-clause-fetched : goal.returns-in-Err-find_numbers-clause-fetched
returns-in-Err-find_numbers-clause-fetched g c = fetches_query c.args.query.now c.args.default_field.now c.in-Ok.tree (g.H.FileHandle.state c.args.file.now) (g.H.FileHandle.state c.find_numbers.new.file) c.in-Ok.ensures c.find_numbers.ensures.fetched
