-- The signals: the number, the layer and the name of each, and what a fault prints.
use Rattle.std.specs.Prelude.{ℕ, ℤ, negsuc, List, ◌++◌, codes}
use Rattle.std.specs.Fmt.{decimal, signed_decimal}
use Rattle.model.specs.declared.signals.Signal.{Signal}
use Rattle.model.specs.declared.signals.Signal.TheVariants.{
  Sproc,
  Sstop,
  Spath,
  Sindex,
  Snull,
  Stempl,
  Sgone,
  Srts,
  Stype,
  Sfull,
  Slim,
  Sroom,
  Snames,
  Sdepth,
  Sargs,
  Schk,
  Svalue,
  Smask,
}
use Rattle.model.specs.declared.signals.Layer.{Layer}
use Rattle.model.specs.declared.signals.Layer.TheVariants.{Process, Path, Object, Shelf}
use Rattle.model.specs.declared.signals.Fault.{Fault}

-- negsuc n is -(n + 1)
abbrev pub number : Signal → ℤ
number Sproc = negsuc 0
number Sstop = negsuc 1
number Spath = negsuc 2
number Sindex = negsuc 3
number Snull = negsuc 4
number Stempl = negsuc 5
number Sgone = negsuc 6
number Srts = negsuc 7
number Stype = negsuc 8
number Sfull = negsuc 9
number Slim = negsuc 10
number Sroom = negsuc 11
number Snames = negsuc 12
number Sdepth = negsuc 13
number Sargs = negsuc 14
number Schk = negsuc 15
number Svalue = negsuc 16
number Smask = negsuc 17

abbrev pub layer : Signal → Layer
layer Sproc = Process
layer Sstop = Process
layer Spath = Path
layer Sindex = Path
layer Snull = Path
layer Stempl = Path
layer Sgone = Path
layer Srts = Path
layer Stype = Object
layer Sfull = Path
layer Slim = Shelf
layer Sroom = Object
layer Snames = Object
layer Sdepth = Process
layer Sargs = Object
layer Schk = Object
layer Svalue = Process
layer Smask = Object

-- the fault of a signal with its detail
abbrev pub fault : Signal → ℕ → Fault
fault s d = record { signal = s; detail = d; layer = layer s }

-- a signal's name, as it is printed
abbrev pub name : Signal → List ℕ
name Sproc = codes "SPROC"
name Sstop = codes "SSTOP"
name Spath = codes "SPATH"
name Sindex = codes "SINDEX"
name Snull = codes "SNULL"
name Stempl = codes "STEMPL"
name Sgone = codes "SGONE"
name Srts = codes "SRTS"
name Stype = codes "STYPE"
name Sfull = codes "SFULL"
name Slim = codes "SLIM"
name Sroom = codes "SROOM"
name Snames = codes "SNAMES"
name Sdepth = codes "SDEPTH"
name Sargs = codes "SARGS"
name Schk = codes "SCHK"
name Svalue = codes "SVALUE"
name Smask = codes "SMASK"

-- layers are numbered from the caller down
abbrev pub layer_number : Layer → ℕ
layer_number Process = 1
layer_number Path = 2
layer_number Object = 3
layer_number Shelf = 4

-- a refusal as it is printed: number, name, detail and layer
abbrev pub text : Fault → List ℕ
text f =
    signed_decimal (number f.signal) ++ codes " " ++ name f.signal ++ codes " detail " ++ decimal f.detail ++ codes " layer " ++ decimal (layer_number f.layer)
