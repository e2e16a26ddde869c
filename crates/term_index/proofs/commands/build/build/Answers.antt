-- By the documents that the source tells, or before they are known.
use Rattle.std.proofs.Common.{List, refl, subst, sym}
use Rattle.std.proofs.KnownBytes.{Keeps-refl}
use Rattle.documents.specs.declared.documents.Doc.{Doc}
use Rattle.term_index.specs.declared.outcome.Outcome.TheVariants.{InputTooLong, InFault}
use Rattle.term_index.specs.Source.{Tells}
use Rattle.term_index.proofs.BuildLaws.{told_build_ends, unread_build_ends, told_builds, unread_builds}
use Rattle.term_index.proofs.Possible.{write_never}
use Rattle.term_index.proofs.commands.build.build.Goals as goal

pub returns-in-Ok-clause-ends : goal.returns-in-Ok-clause-ends
returns-in-Ok-clause-ends g c =
    told_build_ends c.args.pages _ c.write.result _ (subst (λ (docs : List Doc). Tells (g.S.Source.left c.args.docs.now) docs) (sym c.as_slice.ensures.value) c.in-Ok.ensures.told) c.write.ensures.ends

pub returns-in-Ok-clause-builds : goal.returns-in-Ok-clause-builds
returns-in-Ok-clause-builds g c =
    told_builds c.args.pages _ _ c.write.result _ _ (subst (λ (docs : List Doc). Tells (g.S.Source.left c.args.docs.now) docs) (sym c.as_slice.ensures.value) c.in-Ok.ensures.told) c.write.ensures.writes

pub returns-in-Err-clause-ends : goal.returns-in-Err-clause-ends
returns-in-Err-clause-ends g c = unread_build_ends c.args.pages _ c.in-Err.outcome c.in-Err.ensures.unread

pub returns-in-Err-clause-builds : goal.returns-in-Err-clause-builds
returns-in-Err-clause-builds g c = unread_builds c.args.pages _ c.in-Err.outcome _ _ c.in-Err.ensures.unread (Keeps-refl _)

pub returns-in-Ok-clause-in_fault : goal.returns-in-Ok-clause-in_fault
returns-in-Ok-clause-in_fault g c = record {
  later = c.in-Ok.ensures.cause.later;
  rose = λ is. absurd (write_never c.args.pages _ c.write.result InFault c.write.ensures.ends refl is);
}

pub returns-in-Ok-clause-too_long : goal.returns-in-Ok-clause-too_long
returns-in-Ok-clause-too_long g c = λ is. absurd (write_never c.args.pages _ c.write.result InputTooLong c.write.ensures.ends refl is)
