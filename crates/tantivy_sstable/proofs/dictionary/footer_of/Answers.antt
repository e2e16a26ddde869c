use Rattle.std.proofs.Common.{◌≡◌, ℕ, ◌<◌, List, length, true, subst, sym, ◌∙◌, arith}
use Rattle.std.specs.Prelude.{Some}
use Rattle.sstable_format.specs.Version.{version_of, is_known}
use Rattle.sstable_format.proofs.Endings.{version-told, unknown-known, parts_of-short, far-by, footer-by}
use Rattle.tantivy_sstable.proofs.dictionary.footer_of.Goals as goal

pub returns-then-not-is_known-clause-told : goal.returns-then-not-is_known-clause-told
returns-then-not-is_known-clause-told c table len ending =
    let told = version-told table c.args.ending c.version_of-version.result ending (subst (λ (l : List ℕ). version_of l ≡ Some c.version_of-version.result) c.as_slice.ensures c.version_of-version.ensures) in
    (told.0, sym c.is_known.ensures ∙ c.if-not-is_known.true)

pub returns-then-len-lt-FOOTER_LEN-clause-told : goal.returns-then-len-lt-FOOTER_LEN-clause-told
returns-then-len-lt-FOOTER_LEN-clause-told c table len ending =
    let known : is_known c.version_of-version.result ≡ true = sym c.is_known.ensures ∙ c.if-not-is_known.false in
    let told = version-told table c.args.ending c.version_of-version.result ending (subst (λ (l : List ℕ). version_of l ≡ Some c.version_of-version.result) c.as_slice.ensures c.version_of-version.ensures) in
    let short : length table < 20 = omega (arith, len, c.if-len-lt-FOOTER_LEN.true) in
    (unknown-known table c.version_of-version.result told.0 known, parts_of-short table short)

pub returns-then-footer-len-clause-told : goal.returns-then-footer-len-clause-told
returns-then-footer-len-clause-told c table len ending =
    let known : is_known c.version_of-version.result ≡ true = sym c.is_known.ensures ∙ c.if-not-is_known.false in
    let told = version-told table c.args.ending c.version_of-version.result ending (subst (λ (l : List ℕ). version_of l ≡ Some c.version_of-version.result) c.as_slice.ensures c.version_of-version.ensures) in
    let far = far-by table c.args.ending ending (omega (arith, len, c.if-len-lt-FOOTER_LEN.false))
    (omega (arith, len, c.read-footer.ensures.offset, c.if-footer-len.true, c.if-len-lt-FOOTER_LEN.false)) in
    (unknown-known table c.version_of-version.result told.0 known, far)

pub returns-clause-told : goal.returns-clause-told
returns-clause-told c table len ending =
    let known : is_known c.version_of-version.result ≡ true = sym c.is_known.ensures ∙ c.if-not-is_known.false in
    let told = version-told table c.args.ending c.version_of-version.result ending (subst (λ (l : List ℕ). version_of l ≡ Some c.version_of-version.result) c.as_slice.ensures c.version_of-version.ensures) in
    footer-by table c.args.ending c.read-footer.result c.version_of-version.result ending told.1 (omega (arith, len, c.if-len-lt-FOOTER_LEN.false)) known
    c.read-footer.ensures.offset c.read-footer.ensures.count c.read-footer.ensures.version
    (omega (arith, len, c.if-footer-len.false, c.if-len-lt-FOOTER_LEN.false))
