-- What is kept of the listings of a recording has one proof at most, so that a type can keep it.
use Rattle.std.specs.Prelude.{◌≡◌, ℕ, List, [], ◌∷◌, Option, Some}
use Rattle.std.specs.Coded.{Coded, Coded-set, code_by, coded×, coded_ℕ, coded_list, coded_option}
use Rattle.std.proofs.Common.{refl}
use Rattle.std.proofs.Props.{props}
use mathlib.Core.HLevel.{×_prop, Unit-prop}
use Rattle.rec_format.specs.declared.recording.ListedPage.{ListedPage}
use Rattle.rec_format.specs.declared.recording.Recording.{Recording}
use Rattle.checkpoints.specs.declared.versions.Version.{Version}
use Rattle.checkpoints.specs.declared.versions.Versions.{Versions}
use Rattle.checkpoints.specs.Versions.{IsListing, AreListings, AreVersions}

-- a listed page is stored as the pair of its fields
abbrev listed_code : Coded ListedPage
listed_code =
    code_by (ℕ × List ℕ) (coded× coded_ℕ (coded_list coded_ℕ)) (λ p. (p.number, p.bytes))
    (λ p. record { number = p.0; bytes = p.1 }) (λ _. refl)

same_listed-prop : (o : Option ListedPage) (listed : ListedPage) → IsProp (o ≡ Some listed)
same_listed-prop o listed = Coded-set (coded_option listed_code) o (Some listed)

ruleset listing_props = (props, same_listed-prop)

IsListing-prop : (rec : Recording) (v : Version) (listed : ListedPage) → IsProp (IsListing rec v listed)
IsListing-prop rec v listed = Prim.hlevel listing_props

AreListings-prop : (rec : Recording) (vs : List Version) (ls : List ListedPage) → IsProp (AreListings rec vs ls)
AreListings-prop rec [] [] = Unit-prop
AreListings-prop rec (v ∷ vs) (l ∷ ls) = ×_prop (IsListing-prop rec v l) (AreListings-prop rec vs ls)
AreListings-prop rec [] (l ∷ ls) = Prim.hlevel props
AreListings-prop rec (v ∷ vs) [] = Prim.hlevel props

ruleset version_props = (props, AreListings-prop)

pub AreVersions-prop : (rec : Recording) (versions : Versions) → IsProp (AreVersions rec versions)
AreVersions-prop rec versions = Prim.hlevel version_props
