-- A compute call whose closure says less, or in other words.
use Rattle.std.proofs.Common.{Option, Result}
use Rattle.front_reference.specs.declared.data.Computed.{Computed}
use Rattle.front_reference.specs.declared.data.Op.{Op}
use Rattle.front_parts.specs.declared.access.entry.CompResult.{CompResult}
use Rattle.front_parts.specs.declared.access.selector.EntrySelector.{EntrySelector}
use Rattle.front_parts.specs.Access.Answering.{Decides}
use Rattle.front_parts.specs.Access.Selecting.{ComputesEntry}

pub decides-as : {V E : Type 0} {Sees : Option V → Type 0} {Does : Op V → Computed V → Type 0} {P Q : Option V → Result (Op V) E → Type 0} {answer : Result (Computed V) E}
    → ((seen : Option V) (d : Result (Op V) E) → P seen d → Q seen d) → Decides Sees Does P answer → Decides Sees Does Q answer
decides-as f d = record { seen = d.seen; sees = d.sees; decided = d.decided; says = f d.seen d.decided d.says; done = d.done; does = d.does; fits = d.fits; answers = d.answers }

pub computes-as : {C W K V E : Type 0} {sees : C → W → K → Option V → Type 0} {computed : C → W → K → Op V → Computed V → C → Type 0}
    {s : EntrySelector K C W} {new : C} {P Q : Option V → Result (Op V) E → Type 0} {shown : Result (CompResult K V) E}
    → ((seen : Option V) (d : Result (Op V) E) → P seen d → Q seen d) → ComputesEntry sees computed s new P shown → ComputesEntry sees computed s new Q shown
computes-as f o = record { answer = o.answer; computes = decides-as f o.computes; shows = o.shows }
