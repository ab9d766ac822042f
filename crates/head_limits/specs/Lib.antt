pub mod HeadLimits
