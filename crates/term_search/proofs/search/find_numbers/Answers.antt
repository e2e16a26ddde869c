use Rattle.term_search.proofs.Answering.{found_numbers_told}
use Rattle.term_search.proofs.Costs.{fetches_opening, fetches_tree}
use Rattle.term_search.proofs.search.find_numbers.Goals as goal

pub returns-in-Err-clause-fetched : goal.returns-in-Err-clause-fetched
returns-in-Err-clause-fetched g c =
    fetches_opening c.args.tree.now c.args.default.now (g.H.FileHandle.state c.args.file.now) (g.H.FileHandle.state c.open.new.handle) c.open.ensures.fetched

pub returns-in_err-into_ids-in-Ok-find_documents-clause-fetched : goal.returns-in_err-into_ids-in-Ok-find_documents-clause-fetched
returns-in_err-into_ids-in-Ok-find_documents-clause-fetched g c =
    fetches_tree c.in-Ok.index c.args.tree.now c.args.default.now (g.H.FileHandle.state c.args.file.now) (g.H.FileHandle.state c.open.new.handle) (g.H.FileHandle.state c.find_documents.new.file) _
    c.in-Ok.ensures.opens c.open.ensures.file.contents c.open.ensures.fetched c.find_documents.ensures.asks

pub returns-in-Ok-find_documents-clause-told : goal.returns-in-Ok-find_documents-clause-told
returns-in-Ok-find_documents-clause-told g c =
    found_numbers_told (g.H.FileHandle.state c.args.file.now) (g.H.FileHandle.state c.open.new.handle) c.in-Ok.index c.args.tree.now c.args.default.now c.in-Ok-find_documents.found _
    c.in-Ok.ensures.opens c.open.ensures.file.contents c.in-Ok-find_documents.ensures.found c.in_ok-into_ids-in-Ok-find_documents.ensures

pub returns-in-Ok-find_documents-clause-fetched : goal.returns-in-Ok-find_documents-clause-fetched
returns-in-Ok-find_documents-clause-fetched g c =
    fetches_tree c.in-Ok.index c.args.tree.now c.args.default.now (g.H.FileHandle.state c.args.file.now) (g.H.FileHandle.state c.open.new.handle) (g.H.FileHandle.state c.find_documents.new.file) _
    c.in-Ok.ensures.opens c.open.ensures.file.contents c.open.ensures.fetched c.find_documents.ensures.asks

pub returns-clause-fetched : goal.returns-clause-fetched
returns-clause-fetched g c =
    fetches_tree c.in-Ok.index c.args.tree.now c.args.default.now (g.H.FileHandle.state c.args.file.now) (g.H.FileHandle.state c.open.new.handle) (g.H.FileHandle.state c.find_documents.new.file) _
    c.in-Ok.ensures.opens c.open.ensures.file.contents c.open.ensures.fetched c.find_documents.ensures.asks
