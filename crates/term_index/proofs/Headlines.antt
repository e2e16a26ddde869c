-- What is appended where a command is done.
use Rattle.std.proofs.Common.{◌≡◌, ℕ, List, Option, Some, None, refl, subst}
use Rattle.std.specs.Io.KnownBytes.{Appends}
use Rattle.owned_bytes.specs.Outside.{FileState}
use Rattle.term_index.specs.declared.outcome.Outcome.{Outcome}
use Rattle.term_index.specs.declared.outcome.Outcome.TheVariants.{Done, OutFault}
use Rattle.term_index.specs.Commands.{Command, build, search, ask, tree, generate}
use Rattle.term_index.specs.Reading.{docs_of}
use Rattle.term_index.specs.Printing.{lines}
use Rattle.term_index.specs.Giving.{Gives}
use Rattle.term_index.specs.Build.{Builds}
use Rattle.term_index.specs.Search.{IsFound, Searches}
use Rattle.term_index.specs.Ask.{Asks}
use Rattle.term_index.specs.Running.{CommandStores, CommandPrints}
use Rattle.term_index.specs.Headline.{CommandBuilt, CommandFound, OfDocuments, OfIndexed, AppendsIndexOf, AppendsNumbers}

builds_index : (pages : ℕ) (left old new : Option (List ℕ)) → Builds pages Done left old new → OfDocuments left (λ docs. AppendsIndexOf docs old new)
builds_index pages None old new builds = tt
builds_index pages (Some bytes) old new builds =
    let says = builds.done refl in
    let told = says.1.told in
    (says.1.docs, subst (λ (held : List ℕ). docs_of held ≡ Some says.1.docs) told.held told.spell.spelled, record { file = says.0; index = says.1.written.index; appended = says.2 })

pub built : (outcome : Outcome) (left old new : Option (List ℕ)) (command : Command) → CommandStores outcome left old new command → outcome ≡ Done → CommandBuilt left old new command
built outcome left old new (build path pages) stores is = builds_index pages left old new (subst (λ (o : Outcome). Builds pages o left old new) is stores)
built outcome left old new (search path field query) stores is = tt
built outcome left old new (ask field query) stores is = tt
built outcome left old new (tree query) stores is = tt
built outcome left old new (generate seed count) stores is = tt

finds : (query field : List ℕ) (file old new : Option (List ℕ)) → Gives (IsFound query field file) OutFault Done old new → OfIndexed file (AppendsNumbers query field old new)
finds query field None old new searches = tt
finds query field (Some bytes) old new searches = λ docs index.
    let says = searches.done refl in
    let found = says.1 in
    let appended : Appends old new (lines found.ids) = subst (Appends old new) found.text_is says.2 in
    record {
      tree = found.tree;
      tree_is = found.searched.taken.tree_is;
      satisfying = subst (λ (ids : List ℕ). Appends old new (lines ids)) (found.found docs index).satisfying appended;
      meaning = λ e printed. subst (λ (ids : List ℕ). Appends old new (lines ids)) ((found.found docs index).meaning e printed) appended;
    }

answers : (query field : List ℕ) (left old new : Option (List ℕ)) → Asks query field Done left old new → OfDocuments left (AppendsNumbers query field old new)
answers query field None old new asks = tt
answers query field (Some bytes) old new asks =
    let says = asks.done refl in
    let told = says.1.told in
    let answered = says.1.answered in
    let appended : Appends old new (lines answered.ids) = subst (Appends old new) answered.text_is says.2 in (
      says.1.docs,
      subst (λ (held : List ℕ). docs_of held ≡ Some says.1.docs) told.held told.spell.spelled,
      record {
        tree = answered.tree;
        tree_is = answered.searched.taken.tree_is;
        satisfying = subst (λ (ids : List ℕ). Appends old new (lines ids)) answered.found.satisfying appended;
        meaning = λ e printed. subst (λ (ids : List ℕ). Appends old new (lines ids)) (answered.found.meaning e printed) appended;
      },
    )

pub found : (outcome : Outcome) (left : Option (List ℕ)) (file : FileState) (old new : Option (List ℕ)) (command : Command) → CommandPrints outcome left file old new command → outcome ≡ Done → CommandFound left file old new command
found outcome left file old new (build path pages) prints is = tt
found outcome left file old new (search path field query) prints is = finds query field file.contents old new (subst (λ (o : Outcome). Searches query field o file old new) is prints)
found outcome left file old new (ask field query) prints is = answers query field left old new (subst (λ (o : Outcome). Asks query field o left old new) is prints)
found outcome left file old new (tree query) prints is =
    let says = prints.done is in
    record { tree = says.1.tree; tree_is = says.1.tree_is; appended = subst (Appends old new) says.1.text_is says.2 }
found outcome left file old new (generate seed count) prints is = tt
