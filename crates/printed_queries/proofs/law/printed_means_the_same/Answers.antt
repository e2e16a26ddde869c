use Rattle.printed_queries.proofs.PrintedLaw as law
use Rattle.printed_queries.proofs.law.printed_means_the_same.Goals as goal

pub returns : goal.returns
returns c = record { means_the_same = law.printed_means_the_same; too_deep = law.printed_too_deep }
