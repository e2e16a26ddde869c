use Rattle.tantivy_bitpacker.proofs.LanePlaces.{PutsPlaces-holds}
use Rattle.tantivy_bitpacker.proofs.filter_vec.put_places.Goals as goal

pub returns : goal.returns
returns c = PutsPlaces-holds c.args.bits c.args.place c.args.kept c.args.values.now c.requires.four c.requires.room c.requires.fits
