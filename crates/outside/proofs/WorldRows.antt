-- Replies cut to their calls, tried on rows.
use Rattle.std.proofs.Common.{◌≡◌, ℕ, List, [], ◌∷◌, replicate, refl}
use Rattle.sl_base.specs.Calls.{error_result}
use Rattle.outside.specs.World.{cut}
use Rattle.sl_base.specs.declared.call.Call.{Call}
use Rattle.outside.specs.declared.world.Reply.{Reply}

abbrev call_of : ℕ → Call
call_of number = record { number = number; args = replicate 6 0 }

abbrev reply_of : ℕ → List ℕ → Reply
reply_of result bytes = record { result = result; bytes = bytes }

-- a read of three bytes by a reply that has five
short_room : cut (reply_of 5 (1 ∷ 2 ∷ 3 ∷ 4 ∷ 5 ∷ [])) (call_of 63) 0 3 ≡ (3, 1 ∷ 2 ∷ 3 ∷ [])
short_room = refl

-- a reply that says more bytes than it has
short_reply : cut (reply_of 5 (1 ∷ 2 ∷ [])) (call_of 278) 0 3 ≡ (2, 1 ∷ 2 ∷ [])
short_reply = refl

-- a write takes no more than it is given, and reads no bytes
short_write : cut (reply_of 5 (1 ∷ 2 ∷ [])) (call_of 64) 4 1 ≡ (4, [])
short_write = refl

-- an error stands as it is
whole_error : cut (reply_of (error_result 4095) (1 ∷ [])) (call_of 63) 0 1 ≡ (4_294_963_201, [])
whole_error = refl

-- one less is no error, but a count
no_error : cut (reply_of (error_result 4096) (1 ∷ [])) (call_of 64) 7 0 ≡ (7, [])
no_error = refl
