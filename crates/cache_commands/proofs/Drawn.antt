-- What a store's clauses on identifiers say of a step.
use Rattle.std.proofs.Common.{refl, ap, ◌∙◌, ◌≡◌, Bool, true, ◌&&◌, ◌||◌, nat_lt}
use Rattle.std.proofs.lemmas.Bool.{lt-ltb, or_left}
use Rattle.audit_model.specs.Bytewise.{same}
use Rattle.cache_commands.specs.Drawing.{DrawsForParts}
use Rattle.rand_core.specs.Stream.{Stream}
use Rattle.cache_commands.specs.Identifiers.{Registers, DrawsAlone, Register, KeepsIdentifiers, identifier_after}

or-and : (a b c : Bool) → b ≡ true → (a || c) ≡ true → (a || (b && c)) ≡ true
or-and a b c e h = ap (λ t. a || (t && c)) e ∙ h

-- none is drawn
pub draws-none : (stream : Stream) (register : Register) → DrawsForParts stream stream register register
draws-none stream register = record { number = 0; stream = refl; registered = λ part. (0, λ id h. or_left (register part id) _ h) }

pub draws-kept : (old_stream new_stream : Stream) (old new : Register) → KeepsIdentifiers old_stream new_stream old new → DrawsForParts old_stream new_stream old new
draws-kept old_stream new_stream old new k = record { number = 0; stream = k.stream; registered = λ part. (0, λ id h. or_left (old part id) _ (k.registered part id h)) }

-- some are drawn, and none is registered
pub draws-alone : (old_stream new_stream : Stream) (old new : Register) → DrawsAlone old_stream new_stream old new → DrawsForParts old_stream new_stream old new
draws-alone old_stream new_stream old new d = record { number = d.number; stream = d.stream; registered = λ part. (0, λ id h. or_left (old part id) _ (d.registered part id h)) }

-- each part registers one
pub draws-registers : (old_stream new_stream : Stream) (old new : Register) → Registers old_stream new_stream old new → DrawsForParts old_stream new_stream old new
draws-registers old_stream new_stream old new r = record {
  number = r.number;
  stream = r.stream;
  registered = λ part.
      let at = r.registered part in
      (at.0, λ id h. or-and (old part id) (nat_lt at.0 r.number) (same id (identifier_after at.0 old_stream)) (lt-ltb at.0 r.number at.1) (at.2 id h));
}

-- nothing is drawn
pub spends-none : (stream : Stream) (register : Register) → DrawsAlone stream stream register register
spends-none stream register = record { number = 0; stream = refl; registered = λ part id h. h }

pub spends-kept : (old_stream new_stream : Stream) (old new : Register) → KeepsIdentifiers old_stream new_stream old new → DrawsAlone old_stream new_stream old new
spends-kept old_stream new_stream old new k = record { number = 0; stream = k.stream; registered = k.registered }
