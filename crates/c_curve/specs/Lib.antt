pub mod CurveExports
