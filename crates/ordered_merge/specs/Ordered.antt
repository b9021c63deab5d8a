-- The values of posts, each at the place of its epoch.
use Rattle.std.specs.Prelude.{ℕ, List, Option, Some, None, fold, replicate, slice_set}
use Rattle.tracer_lang.specs.declared.record.Record.{Record}
use Rattle.analysers.specs.declared.part.Part.{Part}
use Rattle.epoch_core.specs.declared.post.Post.{Post}
use Rattle.epoch_core.specs.declared.post.PostValue.{PostValue}
use Rattle.epoch_core.specs.declared.post.PostValue.TheVariants.{Ran, Broke, Skipped}

-- a post's value comes to the place of its epoch
abbrev pub placed : List PostValue → Post → List PostValue
placed values post = slice_set values post.epoch post.value

-- the values at each of so many places
unfoldable pub in_order : ℕ → List Post → List PostValue
in_order epochs posts = fold placed (replicate epochs (Skipped 0)) posts

-- the records of an epoch, where it ran
abbrev pub ran_records : PostValue → Option (List Record)
ran_records (Ran records parts) = Some records
ran_records (Broke first) = None
ran_records (Skipped below) = None

-- the parts of an epoch, where it ran
abbrev pub ran_parts : PostValue → Option (List Part)
ran_parts (Ran records parts) = Some parts
ran_parts (Broke first) = None
ran_parts (Skipped below) = None
